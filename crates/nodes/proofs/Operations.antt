-- Membership after each operation: for every width. Assumes nothing.
use mathlib.Core.Path.{◌≡◌, refl, sym, ap, ap₂, ◌∙◌}
use mathlib.Core.Logic.{◌⊎◌, inl, inr, ⊎_elim, ◌↔◌}
use Prim.Native.Nat.{ℕ, zero, suc, ◌+◌, ◌-◌, ◌*◌, ◌/◌, ◌%◌, ◌^◌, ◌≤◌, ◌<◌, min, max}
use native.Mathlib.Nat.{le_of_suc-le-suc, not-suc-le-zero, pow-suc, one-mul, le_dest, lt-suc_self, eq-or-lt_of_le, mul-mod_left}
use native.Mathlib.Omega.{arith}
use native.Mathlib.Decide.{dec_lt, ℕ_discrete}
use lib.Dec.{lit<}
use lib.Arith.{digits_mod}
use lib.Pow.{pow_pos, pow-add, pow-lt, shl-shr, ones_lt, shl_exact, high, low}
use lib.Bits.{bit_and, bit_or, bit_xor, differ, and_shr, or_shr, xor_shr, and_step, or_step, xor_step, or_lt}
use Rattle.nodes.specs.Sets.{bit, In, union, meet, minus, single, with, below}
use Rattle.nodes.proofs.Bit.{bit_le, in_or_out, bit_above, in_lt, bit_mod, same, bit_empty}

-- ---- union, meet, minus
pub bit_meet : (a b k : ℕ) → bit (meet a b) k ≡ min (bit a k) (bit b k)
unfolding bit meet
bit_meet a b k =
    ap (λ (x : ℕ). x % 2) (and_shr a b k ∙ and_step (a / 2 ^ k) (b / 2 ^ k))
    ∙ digits_mod (bit_and (a / 2 ^ k / 2) (b / 2 ^ k / 2)) (omega arith)

pub bit_union : (a b k : ℕ) → bit (union a b) k ≡ max (bit a k) (bit b k)
unfolding bit union
bit_union a b k =
    ap (λ (x : ℕ). x % 2) (or_shr a b k ∙ or_step (a / 2 ^ k) (b / 2 ^ k))
    ∙ digits_mod (bit_or (a / 2 ^ k / 2) (b / 2 ^ k / 2)) (omega arith)

differ_lt : (x y : ℕ) → x < 2 → y < 2 → differ x y < 2
differ_lt zero y p q = q
differ_lt (suc zero) zero p q = p
differ_lt (suc zero) (suc zero) p q = lit< tt
differ_lt (suc zero) (suc (suc y)) p q = absurd (omega arith)
differ_lt (suc (suc x)) y p q = absurd (omega arith)

differ_sub : (x y : ℕ) → x ≤ 1 → y ≤ 1 → differ x (min x y) ≡ x - y
differ_sub zero y p q = omega arith
differ_sub (suc zero) zero p q = refl
differ_sub (suc zero) (suc zero) p q = refl
differ_sub (suc zero) (suc (suc y)) p q = absurd (omega arith)
differ_sub (suc (suc x)) y p q = absurd (omega arith)

bit_xor_lem : (a b k : ℕ) → bit (bit_xor a b) k ≡ differ (bit a k) (bit b k)
unfolding bit
bit_xor_lem a b k =
    ap (λ (x : ℕ). x % 2) (xor_shr a b k ∙ xor_step (a / 2 ^ k) (b / 2 ^ k))
    ∙ digits_mod (bit_xor (a / 2 ^ k / 2) (b / 2 ^ k / 2)) (differ_lt (a / 2 ^ k % 2) (b / 2 ^ k % 2) (omega arith) (omega arith))

pub bit_minus : (a b k : ℕ) → bit (minus a b) k ≡ bit a k - bit b k
unfolding minus
bit_minus a b k =
    bit_xor_lem a (meet a b) k ∙ ap (differ (bit a k)) (bit_meet a b k) ∙ differ_sub (bit a k) (bit b k) (bit_le a k) (bit_le b k)

-- the same in words
pub in_union : (a b k : ℕ) → In k (union a b) ↔ (In k a ⊎ In k b)
in_union a b k = (
  λ i. ⊎_elim (λ (e : bit a k ≡ 1). inl e) (λ (z : bit a k ≡ 0). inr (omega (arith, bit_union a b k))) (in_or_out a k),
  λ s. let l = bit_le a k in let m = bit_le b k in let u = bit_union a b k in ⊎_elim (λ (e : bit a k ≡ 1). omega arith) (λ (e : bit b k ≡ 1). omega arith) s,
)

pub in_meet : (a b k : ℕ) → In k (meet a b) ↔ (In k a × In k b)
in_meet a b k = (
  λ i. let l = bit_le a k in let m = bit_le b k in let u = bit_meet a b k in (omega arith, omega arith),
  λ p. omega (arith, bit_meet a b k),
)

pub in_minus : (a b k : ℕ) → In k (minus a b) ↔ (In k a × (In k b → ⊥))
in_minus a b k = (
  λ i. let l = bit_le a k in let u = bit_minus a b k in (omega arith, λ j. omega arith),
  λ p. ⊎_elim (λ (e : bit b k ≡ 1). absurd (p.1 e)) (λ (z : bit b k ≡ 0). omega (arith, bit_minus a b k)) (in_or_out b k),
)

pub union_lt : (w a b : ℕ) → a < 2 ^ w → b < 2 ^ w → union a b < 2 ^ w
unfolding union
union_lt w a b ha hb = or_lt w a b ha hb

-- ---- one node
pub bit_single_same : (k : ℕ) → bit (single k) k ≡ 1
unfolding bit single
bit_single_same k = ap (λ (x : ℕ). x % 2) (ap (λ (x : ℕ). x / 2 ^ k) (sym (one-mul (2 ^ k))) ∙ shl-shr 1 k)

bit_single_above : (k j : ℕ) → k < j → bit (single k) j ≡ 0
unfolding single
bit_single_above k j h = bit_above (suc k) (2 ^ k) j (pow-lt (lt-suc_self k)) h

bit_single_below : (k j : ℕ) → j < k → bit (single k) j ≡ 0
unfolding bit single
bit_single_below k j h =
    let d = le_dest h in
    let e : k ≡ suc d.0 + j = omega (arith, d.1) in
    ap (λ (x : ℕ). 2 ^ x / 2 ^ j % 2) e ∙ ap (λ (x : ℕ). x / 2 ^ j % 2) (pow-add 2 (suc d.0) j)
    ∙ ap (λ (x : ℕ). x % 2) (shl-shr (2 ^ suc d.0) j ∙ pow-suc 2 d.0) ∙ mul-mod_left (2 ^ d.0) 2

pub bit_single_other : (k j : ℕ) → (j ≡ k → ⊥) → bit (single k) j ≡ 0
bit_single_other k j ne = elim (dec_lt j k) [ yes h ↦ bit_single_below k j h | no h ↦ bit_single_above k j (omega arith) ]

pub with_union : (s k : ℕ) → with s k ≡ union s (single k)
unfolding with
with_union s k = refl

pub bit_with : (s k j : ℕ) → bit (with s k) j ≡ max (bit s j) (bit (single k) j)
bit_with s k j = ap (λ (x : ℕ). bit x j) (with_union s k) ∙ bit_union s (single k) j

pub bit_with_same : (s k : ℕ) → bit (with s k) k ≡ 1
bit_with_same s k = omega (arith, bit_with s k k, bit_single_same k, bit_le s k)

pub bit_with_other : (s k j : ℕ) → (j ≡ k → ⊥) → bit (with s k) j ≡ bit s j
bit_with_other s k j ne = omega (arith, bit_with s k j, bit_single_other k j ne)

pub in_with : (s k j : ℕ) → In j (with s k) ↔ (In j s ⊎ (j ≡ k))
in_with s k j = (
  λ i. elim (ℕ_discrete j k) [ yes e ↦ inr e | no e ↦ inl (sym (bit_with_other s k j e) ∙ i) ],
  λ t. ⊎_elim (λ (i : In j s). inside_with i) (λ (e : j ≡ k). rw e (bit_with_same s k)) t,
)
  where
    inside_with : In j s → In j (with s k)
    inside_with i = rw (with_union s k) ((in_union s (single k) j).1 (inl i))

pub with_empty : (k : ℕ) → with 0 k ≡ single k
with_empty k = same (with 0 k) (single k) (λ j. omega (arith, bit_with 0 k j, bit_empty j))

-- a set without k shares no member with that of k alone
pub single_apart : (s k j : ℕ) → bit s k ≡ 0 → min (bit s j) (bit (single k) j) ≡ 0
single_apart s k j z = elim (ℕ_discrete j k) [
  | yes e ↦ let f : bit s j ≡ 0 = ap (bit s) e ∙ z in omega arith
  | no d ↦ omega (arith, bit_single_other k j d)
]

pub with_lt : (w s k : ℕ) → s < 2 ^ w → k < w → with s k < 2 ^ w
unfolding with single
with_lt w s k hs hk = union_lt w s (single k) hs (pow-lt hk)

-- the word of one place, as the machine shifts it
pub shl_one : (w k : ℕ) → k < w → (1 * 2 ^ k) % 2 ^ w ≡ 2 ^ k
shl_one w k h = shl_exact 1 k w (lit< tt) (omega arith) ∙ one-mul (2 ^ k)

-- ---- all nodes below n
pub below_lt : (n : ℕ) → below n < 2 ^ n
unfolding below
below_lt n = ones_lt n

-- the highest digit over a lower part of n digits
top_digit : (n lo : ℕ) → lo < 2 ^ n → bit (2 ^ n + lo) n ≡ 1
unfolding bit
top_digit n lo h =
    ap (λ (x : ℕ). x % 2) (ap (λ (x : ℕ). (x + lo) / 2 ^ n) (sym (one-mul (2 ^ n))) ∙ high 1 n h)

pub bit_below : (n k : ℕ) → k < n → bit (below n) k ≡ 1
unfolding below
bit_below zero k h = absurd (not-suc-le-zero h)
bit_below (suc n) k h =
    let p = pow_pos n in
    let e : 2 ^ suc n - 1 ≡ 2 ^ n + (2 ^ n - 1) = omega (arith, pow-suc 2 n) in
    let ih = bit_below n k in
    ⊎_elim
    (λ (q : k ≡ n). ap₂ bit e q ∙ top_digit n (2 ^ n - 1) (ones_lt n))
    (λ (q : k < n). ap (λ (x : ℕ). bit x k) e ∙ sym (bit_mod n (2 ^ n + (2 ^ n - 1)) k q)
    ∙ ap (λ (x : ℕ). bit x k) (ap (λ (x : ℕ). (x + (2 ^ n - 1)) % 2 ^ n) (sym (one-mul (2 ^ n))) ∙ low 1 n (ones_lt n)) ∙ ih q)
    (eq-or-lt_of_le (le_of_suc-le-suc h))

pub in_below : (n k : ℕ) → In k (below n) ↔ (k < n)
in_below n k = (λ i. in_lt n (below n) k (below_lt n) i, λ h. bit_below n k h)
