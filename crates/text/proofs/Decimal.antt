-- The laws of decimal numbers. Assumes nothing.
use mathlib.Core.Path.{◌≡◌, refl, sym, ap, ◌∙◌}
use mathlib.Core.List.{List, [], ◌∷◌, ◌++◌}
use mathlib.Core.Bool.{true, false}
use mathlib.Core.Logic.{⊎_elim}
use Prim.Native.Nat.{ℕ, zero, suc, ◌*◌, ◌/◌, ◌%◌, ◌≤◌, ◌<◌}
use native.Mathlib.Nat.{not-suc-le-zero}
use native.Mathlib.Omega.{arith}
use lib.Dec.{ltb}
use lib.ListN.{length, length-append}
use borrow.Author.Tests.{lt-ltb, le-ltb, ltb-true, ltb-false}
use Rattle.lemmas.proofs.Cases.{at_true, at_false}
use Rattle.lemmas.proofs.Tests.{true_or_false}
use Rattle.text.specs.Words.{digit, digits, decimal}

digits_small : (f n : ℕ) → n < 10 → digits (suc f) n ≡ digit n ∷ []
unfolding digits
digits_small f n h = sym (at_true (digits f (n / 10) ++ digit (n % 10) ∷ []) (lt-ltb n 10 h) refl)

digits_large : (f n : ℕ) → 10 ≤ n → digits (suc f) n ≡ digits f (n / 10) ++ digit (n % 10) ∷ []
unfolding digits
digits_large f n h = sym (at_false (digit n ∷ []) (le-ltb n 10 h) refl)

-- any bound above the number gives the same digits
digits_same : (f g n : ℕ) → n < f → n < g → digits f n ≡ digits g n
digits_same zero g n h k = absurd (not-suc-le-zero h)
digits_same (suc f) zero n h k = absurd (not-suc-le-zero k)
digits_same (suc f) (suc g) n h k =
    ⊎_elim
    (λ (e : ltb n 10 ≡ true). let s = ltb-true n 10 e in digits_small f n s ∙ sym (digits_small g n s))
    (λ (e : ltb n 10 ≡ false).
    let l = ltb-false n 10 e in
    digits_large f n l
    ∙ ap (λ (d : List ℕ). d ++ digit (n % 10) ∷ []) (digits_same f g (n / 10) (omega arith) (omega arith))
    ∙ sym (digits_large g n l))
    (true_or_false (ltb n 10))

pub decimal_small : (n : ℕ) → n < 10 → decimal n ≡ digit n ∷ []
unfolding decimal
decimal_small n h = digits_small n n h

pub decimal_large : (n : ℕ) → 10 ≤ n → decimal n ≡ decimal (n / 10) ++ digit (n % 10) ∷ []
unfolding decimal
decimal_large n h =
    digits_large n n h
    ∙ ap (λ (d : List ℕ). d ++ digit (n % 10) ∷ []) (digits_same n (suc (n / 10)) (n / 10) (omega arith) (omega arith))

-- ---- how long a number is
one_more : (b k : ℕ) → ((m : ℕ) → m < b → length (decimal m) ≤ k) → (n : ℕ) → n < b * 10 → length (decimal n) ≤ suc k
one_more b k h n l =
    ⊎_elim
    (λ (e : ltb n 10 ≡ true). omega (arith, ap length (decimal_small n (ltb-true n 10 e))))
    (λ (e : ltb n 10 ≡ false).
    omega (arith, ap length (decimal_large n (ltb-false n 10 e)), length-append (decimal (n / 10)) (digit (n % 10) ∷ []), h (n / 10) (omega arith)))
    (true_or_false (ltb n 10))

-- below 100 it has at most two digits
pub decimal_two : (n : ℕ) → n < 100 → length (decimal n) ≤ 2
decimal_two = one_more 10 1 (λ m h. omega (arith, ap length (decimal_small m h)))

-- below 100,000 at most five
pub decimal_five : (n : ℕ) → n < 100000 → length (decimal n) ≤ 5
decimal_five = one_more 10000 4 (one_more 1000 3 (one_more 100 2 decimal_two))

-- below 10,000,000 at most seven
pub decimal_seven : (n : ℕ) → n < 10000000 → length (decimal n) ≤ 7
decimal_seven = one_more 1000000 6 (one_more 100000 5 decimal_five)
