-- What a count of the numbers read tells, and where they stand. Assumes nothing.
use mathlib.Core.Path.{◌≡◌, refl, sym, ap, ◌∙◌}
use mathlib.Core.Bool.{true, false, ◌&&◌}
use mathlib.Core.List.{List}
use mathlib.Core.Logic.{◌⊎◌, inl, inr, ⊎_elim}
use Prim.Native.Nat.{ℕ, ◌≤◌, ◌<◌}
use native.Mathlib.Omega.{arith}
use lib.Dec.{leb}
use lib.ListN.{length, take}
use lib.Seq.{sets, length-sets}
use borrow.Author.Tests.{leb-true, leb-false}
use Rattle.lemmas.proofs.Cases.{at_true, at_false}
use Rattle.lemmas.proofs.Stores.{front_taken}
use Rattle.lemmas.proofs.Tests.{and_intro, and_left, and_right, true_or_false}
use Rattle.std.specs.Prelude.{Some, None}
use Rattle.script.specs.Numbers.{Said, numbers_of, count_of}

-- ---- back from a count
not_bad : {count : ℕ} → Some count ≡ None → ⊥
not_bad e = cc

same_count : {m n : ℕ} → Some m ≡ Some n → m ≡ n
same_count e = cc

pub bad_count : (places : ℕ) (s : Said) → None ≡ count_of places s → (s.good ≡ false) ⊎ (places < length s.numbers)
unfolding count_of
bad_count places s e =
    let small = leb (length s.numbers) places in
    ⊎_elim
    (λ (g : s.good ≡ true).
    ⊎_elim
    (λ (h : small ≡ true). absurd (not_bad (sym (e ∙ sym (at_true None (and_intro s.good small g h) refl)))))
    (λ (h : small ≡ false). inr (leb-false (length s.numbers) places h))
    (true_or_false small))
    (λ (g : s.good ≡ false). inl g)
    (true_or_false s.good)

pub record Counted (places : ℕ) (s : Said) (count : ℕ) : Type 0 where
  pub good : s.good ≡ true
  pub all : count ≡ length s.numbers
  pub enough : length s.numbers ≤ places

pub read_count : (places : ℕ) (s : Said) {count : ℕ} → Some count ≡ count_of places s → Counted places s count
unfolding count_of
read_count places s {count} e =
    let small = leb (length s.numbers) places in
    ⊎_elim
    (λ (t : (s.good && small) ≡ true). record {
      good = and_left s.good small t;
      all = same_count (e ∙ sym (at_true None t refl));
      enough = leb-true (length s.numbers) places (and_right s.good small t);
    })
    (λ (t : (s.good && small) ≡ false). absurd (not_bad (e ∙ sym (at_false (Some (length s.numbers)) t refl))))
    (true_or_false (s.good && small))

-- ---- the numbers that were read stand in front
module _ (bytes found left : List ℕ) (stored : left ≡ sets found 0 (numbers_of bytes).numbers) {count : ℕ} (e : Some count ≡ count_of (length found) (numbers_of bytes)) where
  counted : Counted (length found) (numbers_of bytes) count
  counted = read_count (length found) (numbers_of bytes) e

  pub read_good : (numbers_of bytes).good ≡ true
  read_good = counted.good

  pub read_inside : count ≤ length left
  read_inside = omega (arith, counted.all, counted.enough, ap length stored, length-sets found 0 (numbers_of bytes).numbers)

  pub read_front : take count left ≡ (numbers_of bytes).numbers
  read_front = ap (take count) stored ∙ front_taken found (numbers_of bytes).numbers counted.all counted.enough
