-- What one byte is to a reader of digits. Assumes nothing.
use mathlib.Core.Path.{◌≡◌, refl, sym, ap, ◌∙◌}
use mathlib.Core.Bool.{true, false}
use mathlib.Core.Logic.{◌⊎◌, inl, inr, ⊎_elim}
use Prim.Native.Nat.{ℕ, ◌+◌, ◌-◌, ◌*◌, ◌^◌, ◌≤◌, ◌<◌}
use native.Mathlib.Omega.{arith}
use lib.Dec.{leb, ltb}
use borrow.Author.Tests.{lt-ltb, le-ltb, le-leb, lt-leb, ltb-true, ltb-false}
use Rattle.lemmas.proofs.Cases.{at_true, at_false}
use Rattle.lemmas.proofs.Tests.{and_intro, and_first, and_later, true_or_false}
use Rattle.std.specs.Prelude.{Option, Some, None}
use Rattle.std.specs.Char.{IsAsciiDigit, IsNotAsciiDigit}
use Rattle.std.specs.Option.{SomeIff}
use Rattle.std.proofs.lemmas.Bool.Decides.{nat_tests}
use Rattle.text.specs.Digits.{is_digit, longer, grown}

pub digit_low : (b : ℕ) → b < 48 → is_digit b ≡ false
unfolding is_digit
digit_low b h = and_first (leb b 57) (lt-leb 48 b h)

pub digit_high : (b : ℕ) → 57 < b → is_digit b ≡ false
unfolding is_digit
digit_high b h = and_later (leb 48 b) (lt-leb b 57 h)

pub digit_is : (b : ℕ) → 48 ≤ b → b ≤ 57 → is_digit b ≡ true
unfolding is_digit
digit_is b h l = and_intro (leb 48 b) (leb b 57) (le-leb 48 b h) (le-leb b 57 l)

-- as std's test of a byte says it
pub a_digit : (b : ℕ) → IsAsciiDigit b → is_digit b ≡ true
unfolding is_digit
a_digit b h = grind (arith, nat_tests)

pub no_digit : (b : ℕ) → IsNotAsciiDigit b → is_digit b ≡ false
unfolding is_digit
no_digit b h = grind (arith, nat_tests)

module _ (v b : ℕ) where
  pub grown_strange : is_digit b ≡ false → None ≡ grown v b
  unfolding grown
  grown_strange e = at_false _ e refl

  pub grown_large : is_digit b ≡ true → 2 ^ 64 ≤ longer v b → None ≡ grown v b
  unfolding grown
  grown_large e h = at_true None e (at_false (Some (longer v b)) (le-ltb (longer v b) (2 ^ 64) h) refl)

  pub grown_is : is_digit b ≡ true → longer v b < 2 ^ 64 → Some (longer v b) ≡ grown v b
  unfolding grown
  grown_is e h = at_true None e (at_true None (lt-ltb (longer v b) (2 ^ 64) h) refl)

  -- as the checked sum says it
  pub grown_by : (r : Option ℕ) {w : ℕ} → is_digit b ≡ true → w ≡ v * 10 → SomeIff r (w + (b - 48) < 2 ^ 64) (w + (b - 48)) → r ≡ grown v b
  grown_by None d e h = grown_large d (omega arith)
  grown_by (Some x) d e h = ap Some (omega arith) ∙ grown_is d (omega arith)

-- ---- and back: what a strange byte is, and what a digit did
no_number_lem : {u : ℕ} → ◌≡◌ {A = Option ℕ} None (Some u) → ⊥
no_number_lem e = cc

same_number : {u v : ℕ} → Some u ≡ Some v → u ≡ v
same_number e = cc

module _ (v b : ℕ) where
  pub strange_is : None ≡ grown v b → (is_digit b ≡ false) ⊎ (2 ^ 64 ≤ longer v b)
  strange_is e =
      ⊎_elim
      (λ (d : is_digit b ≡ true).
      ⊎_elim
      (λ (s : ltb (longer v b) (2 ^ 64) ≡ true). absurd (no_number_lem (e ∙ sym (grown_is v b d (ltb-true (longer v b) (2 ^ 64) s)))))
      (λ (s : ltb (longer v b) (2 ^ 64) ≡ false). inr (ltb-false (longer v b) (2 ^ 64) s))
      (true_or_false (ltb (longer v b) (2 ^ 64))))
      (λ (d : is_digit b ≡ false). inl d)
      (true_or_false (is_digit b))

  pub number_is : {u : ℕ} → Some u ≡ grown v b → (is_digit b ≡ true) × (u ≡ longer v b) × (u < 2 ^ 64)
  number_is e =
      ⊎_elim
      (λ (d : is_digit b ≡ true).
      ⊎_elim
      (λ (s : ltb (longer v b) (2 ^ 64) ≡ true).
      let small = ltb-true (longer v b) (2 ^ 64) s in
      let same = same_number (e ∙ sym (grown_is v b d small)) in
      (d, same, omega arith))
      (λ (s : ltb (longer v b) (2 ^ 64) ≡ false). absurd (no_number_lem (grown_large v b d (ltb-false (longer v b) (2 ^ 64) s) ∙ sym e)))
      (true_or_false (ltb (longer v b) (2 ^ 64))))
      (λ (d : is_digit b ≡ false). absurd (no_number_lem (grown_strange v b d ∙ sym e)))
      (true_or_false (is_digit b))
