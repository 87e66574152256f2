-- Membership in a set, and when two sets are equal: for every width. Assumes nothing.
use mathlib.Core.Path.{◌≡◌, refl, sym, ap, ap₂, ◌∙◌}
use mathlib.Core.Bool.{true, false}
use mathlib.Core.Logic.{◌⊎◌, inl, inr, ⊎_elim}
use Prim.Native.Nat.{ℕ, zero, suc, ◌+◌, ◌*◌, ◌/◌, ◌%◌, ◌^◌, ◌≤◌, ◌<◌, zero-le, suc-le-suc}
use native.Mathlib.Nat.{mod-lt, zero-lt-suc, div-one, le_of_suc-le-suc, div-add-mod', pow-suc, div-eq_of_lt, le_dest, lt_of_lt_of_le, le_refl}
use native.Mathlib.Omega.{arith}
use native.Mathlib.Numerals.{add-one, one-add}
use native.Mathlib.Decide.{dec_lt}
use lib.Dec.{eqb}
use lib.Arith.{lt-one}
use lib.Pow.{pow_pos, shr-shr, shr_lt, pow_mono, field, mod-mod-pow}
use borrow.Author.Tests.{eqb-true, eq-eqb}
use Rattle.lemmas.proofs.Tests.{not_true_false, not_both}
use Rattle.nodes.specs.Sets.{bit, In, has}

-- ---- a digit
pub bit_le : (s k : ℕ) → bit s k ≤ 1
unfolding bit
bit_le s k = le_of_suc-le-suc (mod-lt (s / 2 ^ k) (zero-lt-suc 1))

pub bit_zero : (s : ℕ) → bit s 0 ≡ s % 2
unfolding bit
bit_zero s = ap (λ (x : ℕ). x % 2) (div-one s)

pub bit_suc : (s k : ℕ) → bit s (suc k) ≡ bit (s / 2) k
unfolding bit
bit_suc s k = ap (λ (x : ℕ). x % 2) (sym (shr-shr s 1 k ∙ ap (λ (x : ℕ). s / 2 ^ x) (one-add k)))

digit_cases : (d : ℕ) → d ≤ 1 → (d ≡ 1) ⊎ (d ≡ 0)
digit_cases zero h = inr refl
digit_cases (suc zero) h = inl refl
digit_cases (suc (suc d)) h = absurd (omega arith)

pub in_or_out : (s k : ℕ) → In k s ⊎ (bit s k ≡ 0)
in_or_out s k = digit_cases (bit s k) (bit_le s k)

-- a set below 2 ^ w has no member from w on
pub bit_above : (w s k : ℕ) → s < 2 ^ w → w ≤ k → bit s k ≡ 0
unfolding bit
bit_above w s k h l = ap (λ (x : ℕ). x % 2) (div-eq_of_lt (lt_of_lt_of_le h (pow_mono l)))

pub in_lt : (w s k : ℕ) → s < 2 ^ w → In k s → k < w
in_lt w s k h e = elim (dec_lt k w) [ yes l ↦ l | no l ↦ absurd (let z = bit_above w s k h (omega arith) in omega arith) ]

-- the digits below w are those of the rest by 2 ^ w
pub bit_mod : (w s k : ℕ) → k < w → bit (s % 2 ^ w) k ≡ bit s k
unfolding bit
bit_mod w s k h =
    let d = le_dest h in
    let e : w ≡ suc d.0 + k = omega (arith, d.1) in
    ap (λ (x : ℕ). s % 2 ^ x / 2 ^ k % 2) e ∙ ap (λ (x : ℕ). x % 2) (field s (suc d.0) k)
    ∙ ap (λ (x : ℕ). s / 2 ^ k % 2 ^ x % 2) (sym (add-one d.0)) ∙ mod-mod-pow (s / 2 ^ k) d.0 1

-- ---- the test of membership
pub has_in : (s k : ℕ) → has s k ≡ true → In k s
unfolding has
has_in s k e = eqb-true _ _ e

pub in_has : (s k : ℕ) → In k s → has s k ≡ true
unfolding has
in_has s k e = eq-eqb _ _ e

pub has_out : (s k : ℕ) → has s k ≡ false → bit s k ≡ 0
has_out s k e = ⊎_elim (λ (i : bit s k ≡ 1). absurd (not_both (in_has s k i) e)) (λ (z : bit s k ≡ 0). z) (in_or_out s k)

pub out_has : (s k : ℕ) → bit s k ≡ 0 → has s k ≡ false
out_has s k z = not_true_false _ (λ e. let i = has_in s k e in omega arith)

pub has_bit : (s k : ℕ) → has s k ≡ eqb (bit s k) 1
unfolding has
has_bit s k = refl

-- ---- two sets with the same members are equal
pub same_below : (w a b : ℕ) → a < 2 ^ w → b < 2 ^ w → ((k : ℕ) → k < w → bit a k ≡ bit b k) → a ≡ b
same_below zero a b ha hb e = lt-one ha ∙ sym (lt-one hb)
same_below (suc w) a b ha hb e =
    sym (div-add-mod' a 2)
    ∙ ap₂ (λ (x y : ℕ). x * 2 + y)
    (same_below w (a / 2) (b / 2) (shr_lt w 1 (rw add-one ha)) (shr_lt w 1 (rw add-one hb))
    (λ k h. sym (bit_suc a k) ∙ e (suc k) (suc-le-suc h) ∙ bit_suc b k))
    (sym (bit_zero a) ∙ e 0 (zero-lt-suc w) ∙ bit_zero b)
    ∙ div-add-mod' b 2

pub pow_gt : (n : ℕ) → n < 2 ^ n
pow_gt zero = le_refl 1
pow_gt (suc n) = omega (arith, pow_gt n, pow-suc 2 n)

-- whatever their width
pub same : (a b : ℕ) → ((k : ℕ) → bit a k ≡ bit b k) → a ≡ b
same a b h = same_below (a + b) a b (lt_of_lt_of_le (pow_gt a) (pow_mono (omega arith))) (lt_of_lt_of_le (pow_gt b) (pow_mono (omega arith))) (λ k _. h k)

-- ---- the empty set
pub bit_empty : (k : ℕ) → bit 0 k ≡ 0
bit_empty k = bit_above 0 0 k (pow_pos 0) zero-le

pub empty_same : (s : ℕ) → ((k : ℕ) → bit s k ≡ 0) → s ≡ 0
empty_same s h = same s 0 (λ k. h k ∙ sym (bit_empty k))
