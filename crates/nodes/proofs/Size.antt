-- The size of a set: for every width. Assumes nothing.
use mathlib.Core.Path.{◌≡◌, refl, sym, ap, ap₂, ◌∙◌}
use Prim.Native.Nat.{ℕ, zero, suc, ◌+◌, ◌*◌, ◌/◌, ◌%◌, ◌^◌, ◌≤◌, ◌<◌, min, max}
use native.Mathlib.Nat.{mod-lt}
use native.Mathlib.Omega.{arith}
use native.Mathlib.Decide.{dec_lt}
use lib.Dec.{eqb}
use lib.Arith.{bin_ind, digits_mod, digits_div}
use lib.Bits.{bit_and, bit_or, and_step, or_step, and_zero_l, or_zero_l}
use lib.Count.{ones, ones_step, ones-le}
use lib.ListN.{length, length-append}
use lib.Pow.{pow_pos}
use Rattle.nodes.specs.Sets.{bit, In, union, meet, minus, Inside, only, members, size}
use Rattle.nodes.proofs.Bit.{bit_zero, bit_suc, bit_le, empty_same, same}
use Rattle.nodes.proofs.Operations.{bit_union, bit_meet, bit_minus}
use Rattle.nodes.proofs.Inside.{inside_both, minus_none}
use Rattle.nodes.proofs.Members.{from, from_step, from_none, members_from_lem}

-- ---- it is the length of the list of members
pub size_members : (s : ℕ) → size s ≡ length (members s)
unfolding size members
size_members s = refl

only_length : (d : ℕ) (k : ℕ) → d ≤ 1 → length (only (eqb d 1) k) ≡ d
only_length zero k h = refl
only_length (suc zero) k h = refl
only_length (suc (suc d)) k h = absurd (omega arith)

from_length : (s j k : ℕ) → length (from j s) ≡ length (from k s)
from_length = bin_ind (λ (s : ℕ). (j k : ℕ) → length (from j s) ≡ length (from k s)) (λ j k. ap length (from_none j) ∙ sym (ap length (from_none k))) step
  where
    step : (s : ℕ) → ((j k : ℕ) → length (from j (s / 2)) ≡ length (from k (s / 2))) → (j k : ℕ) → length (from j s) ≡ length (from k s)
    step s ih j k =
        ap length (from_step j s) ∙ length-append (only (eqb (s % 2) 1) j) (from (suc j) (s / 2))
        ∙ ap₂ (λ (x y : ℕ). x + y) (only_length (s % 2) j (omega arith) ∙ sym (only_length (s % 2) k (omega arith))) (ih (suc j) (suc k))
        ∙ sym (ap length (from_step k s) ∙ length-append (only (eqb (s % 2) 1) k) (from (suc k) (s / 2)))

pub size_step : (s : ℕ) → size s ≡ s % 2 + size (s / 2)
size_step s =
    size_members s ∙ ap length (members_from_lem s ∙ from_step 0 s) ∙ length-append (only (eqb (s % 2) 1) 0) (from 1 (s / 2))
    ∙ ap₂ (λ (x y : ℕ). x + y) (only_length (s % 2) 0 (omega arith)) (from_length (s / 2) 1 0 ∙ sym (size_members (s / 2) ∙ ap length (members_from_lem (s / 2))))

pub size_empty : size 0 ≡ 0
size_empty = size_members 0 ∙ ap length (members_from_lem 0 ∙ from_none 0)

-- it is what the machine counts in a word
pub size_ones : (s : ℕ) → ones s ≡ size s
unfolding ones
size_ones = bin_ind (λ (s : ℕ). ones s ≡ size s) (sym size_empty) (λ s e. ones_step s ∙ ap (λ (x : ℕ). s % 2 + x) e ∙ sym (size_step s))

pub size_le : (w s : ℕ) → s < 2 ^ w → size s ≤ w
size_le w s h = rw (size_ones s) at (ones-le w s h)

pub size_below : (s n : ℕ) → size (s % 2 ^ n) ≤ n
size_below s n = size_le n (s % 2 ^ n) (mod-lt s (pow_pos n))

-- ---- more members, larger size; the size of a union
pub size_mono : (a b : ℕ) → Inside a b → size a ≤ size b
size_mono = bin_ind (λ (a : ℕ). (b : ℕ) → Inside a b → size a ≤ size b) (λ b h. omega (arith, size_empty)) step
  where
    step : (a : ℕ) → ((b : ℕ) → Inside (a / 2) b → size (a / 2) ≤ size b) → (b : ℕ) → Inside a b → size a ≤ size b
    step a ih b h =
        let r = ih (b / 2) (λ k. omega (arith, h (suc k), bit_suc a k, bit_suc b k)) in
        omega (arith, size_step a, size_step b, h 0, bit_zero a, bit_zero b)

size_digit : (q d : ℕ) → d < 2 → size (q * 2 + d) ≡ d + size q
size_digit q d h = size_step (q * 2 + d) ∙ ap₂ (λ (x y : ℕ). x + size y) (digits_mod q h) (digits_div q h)

union_zero : (b : ℕ) → union 0 b ≡ b
unfolding union
union_zero b = or_zero_l b

meet_zero : (b : ℕ) → meet 0 b ≡ 0
unfolding meet
meet_zero b = and_zero_l b

size_union_step : (a b : ℕ) → size (union a b) ≡ max (a % 2) (b % 2) + size (union (a / 2) (b / 2))
unfolding union
size_union_step a b = ap size (or_step a b) ∙ size_digit (bit_or (a / 2) (b / 2)) (max (a % 2) (b % 2)) (omega arith)

size_meet_step : (a b : ℕ) → size (meet a b) ≡ min (a % 2) (b % 2) + size (meet (a / 2) (b / 2))
unfolding meet
size_meet_step a b = ap size (and_step a b) ∙ size_digit (bit_and (a / 2) (b / 2)) (min (a % 2) (b % 2)) (omega arith)

pub size_union_meet : (a b : ℕ) → size (union a b) + size (meet a b) ≡ size a + size b
size_union_meet = bin_ind (λ (a : ℕ). (b : ℕ) → size (union a b) + size (meet a b) ≡ size a + size b) none step
  where
    none : (b : ℕ) → size (union 0 b) + size (meet 0 b) ≡ size 0 + size b
    none b = omega (arith, ap size (union_zero b), ap size (meet_zero b))

    step : (a : ℕ) → ((b : ℕ) → size (union (a / 2) b) + size (meet (a / 2) b) ≡ size (a / 2) + size b) → (b : ℕ)
        → size (union a b) + size (meet a b) ≡ size a + size b
    step a ih b = omega (arith, size_union_step a b, size_meet_step a b, size_step a, size_step b, ih (b / 2))

pub size_disjoint : (a b : ℕ) → meet a b ≡ 0 → size (union a b) ≡ size a + size b
size_disjoint a b e = omega (arith, size_union_meet a b, ap size e, size_empty)

-- ---- a set is empty exactly if its size is 0
pub size_zero : (s : ℕ) → size s ≡ 0 → s ≡ 0
size_zero = bin_ind (λ (s : ℕ). size s ≡ 0 → s ≡ 0) (λ e. refl) (λ s ih e. let q = ih (omega (arith, size_step s)) in omega (arith, size_step s))

-- a set inside another of no greater size is that set
pub size_same : (a b : ℕ) → Inside a b → size b ≤ size a → a ≡ b
size_same a b f h =
    let whole : union a (minus b a) ≡ b = same _ b (λ k. omega (arith, bit_union a (minus b a) k, bit_minus b a k, bit_le b k, f k)) in
    let apart : meet a (minus b a) ≡ 0 = empty_same _ (λ k. omega (arith, bit_meet a (minus b a) k, bit_minus b a k, bit_le a k, bit_le b k)) in
    let rest : minus b a ≡ 0 = size_zero _ (omega (arith, size_disjoint a (minus b a) apart, ap size whole)) in
    inside_both a b f (minus_none b a rest)

-- and one that lacks a member of the other is smaller
pub size_less : (a b k : ℕ) → Inside a b → In k b → bit a k ≡ 0 → size a < size b
size_less a b k f i z = go (dec_lt (size a) (size b))
  where
    go : Dec (size a < size b) → size a < size b
    go (yes l) = l
    go (no l) = absurd (omega (arith, ap (λ (x : ℕ). bit x k) (size_same a b f (omega arith))))
