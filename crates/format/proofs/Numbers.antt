-- A number that is written is read as itself, and one that was read, with no zero in front, is written back. Assumes nothing.
use mathlib.Core.Path.{◌≡◌, refl, sym, ap, ap₂, ◌∙◌}
use mathlib.Core.Bool.{Bool, true, false, not, ◌||◌}
use mathlib.Core.Logic.{⊎_elim}
use mathlib.Core.List.{List, [], ◌∷◌, ◌++◌, append_assoc, append-nil}
use mathlib.Core.Option.{none, some, none-ne-some}
use Prim.Native.Nat.{ℕ, zero, suc, ◌+◌, ◌-◌, ◌*◌, ◌/◌, ◌%◌, ◌^◌, ◌≤◌, ◌<◌}
use native.Mathlib.Nat.{not-suc-le-zero}
use native.Mathlib.Omega.{arith}
use lib.Dec.{leb, ltb, eqb}
use lib.ListN.{length, get_or, length-append, get_or-append}
use borrow.Author.Tests.{ltb-true, ltb-false, leb-true, le-leb, lt-leb, eqb-false, ne_eqb, not-false}
use Rattle.lemmas.specs.Lists.{any_of}
use Rattle.lemmas.proofs.Cases.{at_false, and_rest}
use Rattle.lemmas.proofs.Tests.{not_both, true_or_false, and_left, and_right, and_later, or_left_false, or_right_false}
use Rattle.lemmas.proofs.Any.{any_append, any_weaker}
use Rattle.text.specs.Words.{digit, decimal}
use Rattle.text.specs.Digits.{is_digit, longer}
use Rattle.text.proofs.Decimal.{decimal_small, decimal_large}
use Rattle.text.proofs.Reading.{digit_is}
use Rattle.format.specs.Fields.{no_digit, value_from, no_number, number_of}
use Rattle.format.specs.Written.{zero_in_front}
use Rattle.format.proofs.Choices.{some_unless}

-- ---- digits
digit_fine : (d : ℕ) → d < 10 → no_digit (digit d) ≡ false
unfolding no_digit
digit_fine d h = ap not (digit_is (digit d) (omega arith) (omega arith))

pub digit_range : (b : ℕ) → no_digit b ≡ false → (48 ≤ b) × (b ≤ 57)
unfolding no_digit is_digit
digit_range b e =
    let t = not-false (is_digit b) e in
    (leb-true 48 b (and_left (leb 48 b) (leb b 57) t), leb-true b 57 (and_right (leb 48 b) (leb b 57) t))

-- a byte that meets a test is not among those that don't
pub none_meets : (p : ℕ → Bool) (c : ℕ) (w : List ℕ) → p c ≡ true → any_of p w ≡ false → any_of (eqb c) w ≡ false
none_meets p c w e f = any_weaker p (eqb c) w (λ x h. ne_eqb c x (λ q. not_both e (rw q h))) f

-- so one that is no digit is not among digits
pub digits_free : (c : ℕ) (w : List ℕ) → no_digit c ≡ true → any_of no_digit w ≡ false → any_of (eqb c) w ≡ false
digits_free = none_meets no_digit

-- ---- what is written has a property, if one digit has it and each digit more keeps it
module _ (P : ℕ → List ℕ → Type 0) (small : (d : ℕ) → d < 10 → P d (digit d ∷ []))
    (large : (n : ℕ) (w : List ℕ) → 10 ≤ n → P (n / 10) w → P n (w ++ digit (n % 10) ∷ [])) where
  by_digits_to : (f n : ℕ) → n < f → P n (decimal n)
  by_digits_to zero n h = absurd (not-suc-le-zero h)
  by_digits_to (suc f) n h =
      ⊎_elim
      (λ (e : ltb n 10 ≡ true). let t = ltb-true n 10 e in rw (decimal_small n t) (small n t))
      (λ (e : ltb n 10 ≡ false). let t = ltb-false n 10 e in rw (decimal_large n t) (large n (decimal (n / 10)) t (by_digits_to f (n / 10) (omega arith))))
      (true_or_false (ltb n 10))

  by_digits : (n : ℕ) → P n (decimal n)
  by_digits n = by_digits_to (suc n) n (omega arith)

pub decimal_digits : (n : ℕ) → any_of no_digit (decimal n) ≡ false
decimal_digits =
    by_digits (λ n w. any_of no_digit w ≡ false) (λ d h. ap (λ (t : Bool). t || false) (digit_fine d h))
    (λ n w h e. any_append no_digit w (digit (n % 10) ∷ []) e (ap (λ (t : Bool). t || false) (digit_fine (n % 10) (omega arith))))

value_snoc : (v : ℕ) (w : List ℕ) (b : ℕ) → value_from v (w ++ b ∷ []) ≡ longer (value_from v w) b
unfolding value_from
value_snoc v [] b = refl
value_snoc v (x ∷ w) b = value_snoc (longer v x) w b

decimal_value : (n : ℕ) → value_from 0 (decimal n) ≡ n
unfolding value_from
decimal_value =
    by_digits (λ n w. value_from 0 w ≡ n) (λ d h. omega arith)
    (λ n w h e. value_snoc 0 w (digit (n % 10)) ∙ omega arith)

-- there is a digit, and the first is 0 only if the number is
decimal_first : (n : ℕ) → (0 < length (decimal n)) × (0 < n → get_or (decimal n) 0 0 ≡ 48 → ⊥)
decimal_first =
    by_digits (λ n w. (0 < length w) × (0 < n → get_or w 0 0 ≡ 48 → ⊥)) (λ d h. (omega arith, λ p e. omega arith))
    (λ n w h q. (
      omega (arith, q.0, length-append w (digit (n % 10) ∷ [])),
      λ p e. q.1 (omega arith) (sym (get_or-append w (digit (n % 10) ∷ []) 0 0 q.0) ∙ e),
    ))

pub decimal_some : (n : ℕ) → 0 < length (decimal n)
decimal_some n = (decimal_first n).0

pub decimal_no_zero : (n : ℕ) → zero_in_front (decimal n) ≡ false
unfolding zero_in_front
decimal_no_zero n =
    ⊎_elim
    (λ (e : ltb n 10 ≡ true). rw (decimal_small n (ltb-true n 10 e)))
    (λ (e : ltb n 10 ≡ false). let t = ltb-false n 10 e in and_later (leb 2 (length (decimal n))) (ne_eqb (get_or (decimal n) 0 0) 48 ((decimal_first n).1 (omega arith))))
    (true_or_false (ltb n 10))

-- Law: a number that is written is read as itself.
pub number_read : (n : ℕ) → n < 2 ^ 64 → number_of (decimal n) ≡ some n
unfolding number_of no_number
number_read n h =
    sym
    (at_false none
    (ap₂ ◌||◌ (ne_eqb (length (decimal n)) 0 (λ e. omega (arith, decimal_some n)))
    (ap₂ ◌||◌ (decimal_digits n) (lt-leb (2 ^ 64) (value_from 0 (decimal n)) (omega (arith, decimal_value n)))))
    (ap some (sym (decimal_value n))))

-- ---- and back
pub number_digits : (w : List ℕ) (v : ℕ) → number_of w ≡ some v → any_of no_digit w ≡ false
unfolding number_of no_number
number_digits w v e =
    or_left_false (any_of no_digit w) (leb (2 ^ 64) (value_from 0 w)) (or_right_false (eqb (length w) 0) _ (some_unless (no_number w) (value_from 0 w) v e).0)

number_value : (w : List ℕ) (v : ℕ) → number_of w ≡ some v → value_from 0 w ≡ v
unfolding number_of
number_value w v e = (some_unless (no_number w) (value_from 0 w) v e).1

decimal_longer : (a d : ℕ) → 0 < a → d < 10 → decimal (a * 10 + d) ≡ decimal a ++ digit d ∷ []
decimal_longer a d p h =
    let x : (a * 10 + d) / 10 ≡ a = omega arith in
    let y : (a * 10 + d) % 10 ≡ d = omega arith in
    decimal_large (a * 10 + d) (omega arith) ∙ ap₂ (λ (u v : ℕ). decimal u ++ digit v ∷ []) x y

value_back : (a : ℕ) (l : List ℕ) → 0 < a → any_of no_digit l ≡ false → decimal (value_from a l) ≡ decimal a ++ l
unfolding value_from
value_back a [] p e = sym (append-nil (decimal a))
value_back a (b ∷ l) p e =
    let r = digit_range b (or_left_false (no_digit b) (any_of no_digit l) e) in
    let same : digit (b - 48) ≡ b = omega arith in
    value_back (longer a b) l (omega arith) (or_right_false (no_digit b) (any_of no_digit l) e)
    ∙ ap (λ (x : List ℕ). x ++ l) (decimal_longer a (b - 48) p (omega arith))
    ∙ append_assoc (decimal a) (digit (b - 48) ∷ []) l
    ∙ ap (λ (x : ℕ). decimal a ++ x ∷ l) same

-- the first digit
decimal_one : (b : ℕ) → no_digit b ≡ false → decimal (longer 0 b) ≡ b ∷ []
decimal_one b e =
    let r = digit_range b e in
    let same : digit (longer 0 b) ≡ b = omega arith in
    decimal_small (longer 0 b) (omega arith) ∙ ap (λ (x : ℕ). x ∷ []) same

-- Law: a number that was read, with no zero in front, is written so.
pub number_back : (w : List ℕ) (v : ℕ) → number_of w ≡ some v → zero_in_front w ≡ false → w ≡ decimal v
unfolding number_of no_number value_from zero_in_front
number_back [] v e z = absurd (none-ne-some v e)
number_back (b ∷ []) v e z =
    let first = or_left_false (no_digit b) false (number_digits (b ∷ []) v e) in
    sym (decimal_one b first) ∙ ap decimal (number_value (b ∷ []) v e)
number_back (b ∷ c ∷ l) v e z =
    let digits = number_digits (b ∷ c ∷ l) v e in
    let first = or_left_false (no_digit b) (any_of no_digit (c ∷ l)) digits in
    let later = or_right_false (no_digit b) (any_of no_digit (c ∷ l)) digits in
    let r = digit_range b first in
    let some-value : b ≡ 48 → ⊥ = eqb-false b 48 (and_rest (eqb b 48) (le-leb 2 (length (b ∷ c ∷ l)) (omega arith)) z) in
    sym
    (ap decimal (sym (number_value (b ∷ c ∷ l) v e))
    ∙ value_back (longer 0 b) (c ∷ l) (omega arith) later
    ∙ ap (λ (x : List ℕ). x ++ c ∷ l) (decimal_one b first))
