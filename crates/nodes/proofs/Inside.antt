-- One set inside another: for every width. Assumes nothing.
use mathlib.Core.Path.{◌≡◌, ap, subst}
use mathlib.Core.Bool.{Bool, true, false}
use mathlib.Core.Logic.{⊎_elim, ◌↔◌}
use Prim.Native.Nat.{ℕ, ◌%◌, ◌^◌, ◌<◌, ◌≤◌}
use native.Mathlib.Nat.{mod-lt, le_refl, le_trans}
use native.Mathlib.Omega.{arith}
use native.Mathlib.Decide.{dec_lt, ℕ_discrete}
use lib.Dec.{eqb}
use lib.Pow.{pow_pos}
use borrow.Author.Tests.{eqb-true, eq-eqb}
use Rattle.lemmas.proofs.Tests.{same_test}
use Rattle.nodes.specs.Sets.{bit, In, has, union, meet, minus, single, with, below, inside, Inside, keep}
use Rattle.nodes.proofs.Bit.{in_lt, bit_le, in_or_out, bit_above, bit_mod, has_in, in_has, same, bit_empty, empty_same}
use Rattle.nodes.proofs.Operations.{bit_meet, bit_union, bit_minus, bit_single_other, with_union, bit_with, bit_with_same, in_with, below_lt, in_below}

pub inside_of : (a b : ℕ) → inside a b ≡ true → Inside a b
unfolding inside
inside_of a b e k = let q : meet a b ≡ a = eqb-true _ _ e in omega (arith, bit_meet a b k, ap (λ (x : ℕ). bit x k) q)

pub of_inside : (a b : ℕ) → Inside a b → inside a b ≡ true
unfolding inside
of_inside a b h = eq-eqb _ _ (same (meet a b) a (λ k. omega (arith, bit_meet a b k, h k)))

pub inside_in : (a b : ℕ) → ((k : ℕ) → In k a → In k b) → Inside a b
inside_in a b f k = ⊎_elim (λ (e : bit a k ≡ 1). omega (arith, f k e)) (λ (e : bit a k ≡ 0). omega arith) (in_or_out a k)

pub inside_member : (a b k : ℕ) → Inside a b → In k a → In k b
inside_member a b k h i = omega (arith, h k, bit_le b k)

pub inside_trans : (a b c : ℕ) → Inside a b → Inside b c → Inside a c
inside_trans a b c f g k = le_trans (f k) (g k)

-- as tests, and with one member more
pub inside_more : (a b c : ℕ) → inside a b ≡ true → Inside b c → inside a c ≡ true
inside_more a b c e i = of_inside a c (inside_trans a b c (inside_of a b e) i)

pub with_grows : (s k : ℕ) → Inside s (with s k)
with_grows s k j = rw (with_union s k) (omega (arith, bit_union s (single k) j))

pub single_inside : (s k : ℕ) → Inside (single k) (with s k)
single_inside s k j = omega (arith, bit_with s k j)

pub with_inside : (s k t : ℕ) → Inside s t → In k t → Inside (with s k) t
with_inside s k t i m = inside_in (with s k) t (λ j q. ⊎_elim (λ (e : In j s). inside_member s t j i e) (λ (e : j ≡ k). rw e m) ((in_with s k j).0 q))

-- a node is in a set if the set of it alone lies inside
pub with_has : (s k : ℕ) → inside (with 0 k) s ≡ has s k
with_has s k = same_test (inside (with 0 k) s) (has s k)
    (λ e. in_has s k (inside_member (with 0 k) s k (inside_of (with 0 k) s e) (bit_with_same 0 k)))
    (λ e. of_inside (with 0 k) s (with_inside 0 k s (λ j. rw (bit_empty j) (omega arith)) (has_in s k e)))

pub single_below : (n k : ℕ) → k < n → Inside (single k) (below n)
single_below n k h = inside_in (single k) (below n) (λ j i. (in_below n j).1 (rw (single_only k j i) h))
  where
    single_only : (k j : ℕ) → In j (single k) → j ≡ k
    single_only k j i = elim (ℕ_discrete j k) [ yes e ↦ e | no d ↦ absurd (let z = bit_single_other k j d in omega arith) ]

pub union_left : (a b : ℕ) → Inside a (union a b)
union_left a b k = omega (arith, bit_union a b k)

pub union_right : (a b : ℕ) → Inside b (union a b)
union_right a b k = omega (arith, bit_union a b k)

pub inside_union : (a b c : ℕ) → Inside a c → Inside b c → Inside (union a b) c
inside_union a b c i j k = omega (arith, bit_union a b k, i k, j k)

pub empty_inside : (s : ℕ) → Inside 0 s
empty_inside s k = omega (arith, bit_empty k)

pub none_in : (s k : ℕ) → s ≡ 0 → In k s → ⊥
none_in s k e i = omega (arith, ap (λ (x : ℕ). bit x k) e, bit_empty k)

pub inside_both : (a b : ℕ) → Inside a b → Inside b a → a ≡ b
inside_both a b f g = same a b (λ k. omega (arith, f k, g k))

-- a set is what its members are
pub same_members : (a b : ℕ) → ((k : ℕ) → In k a ↔ In k b) → a ≡ b
same_members a b f = inside_both a b (inside_in a b (λ k. (f k).0)) (inside_in b a (λ k. (f k).1))

-- so two sets of exactly the nodes that have a property are one
pub same_nodes : (a b : ℕ) {P : ℕ → Type 0} → ((k : ℕ) → In k a ↔ P k) → ((k : ℕ) → In k b ↔ P k) → a ≡ b
same_nodes a b f g = same_members a b (λ k. (λ m. (g k).1 ((f k).0 m), λ m. (f k).1 ((g k).0 m)))

-- nobody but nodes below n
pub inside_lt : (n s : ℕ) → Inside s (below n) → s < 2 ^ n
inside_lt n s h =
    let e : s % 2 ^ n ≡ s = same _ s (λ k. elim (dec_lt k n) [
      | yes l ↦ bit_mod n s k l
      | no l ↦ omega (arith, bit_above n (s % 2 ^ n) k (mod-lt s (pow_pos n)) (omega arith), bit_above n (below n) k (below_lt n) (omega arith), h k)
    ]) in
    subst (λ (x : ℕ). x < 2 ^ n) e (mod-lt s (pow_pos n))

pub minus_none : (a b : ℕ) → minus a b ≡ 0 → Inside a b
minus_none a b e k = omega (arith, bit_minus a b k, ap (λ (x : ℕ). bit x k) e, bit_empty k)

pub inside_empty : (a : ℕ) → Inside a 0 → a ≡ 0
inside_empty a h = empty_same a (λ k. omega (arith, h k, bit_empty k))

-- the same as a test
pub inside_none : (a : ℕ) → inside a 0 ≡ eqb a 0
inside_none a = same_test _ _ (λ e. eq-eqb a 0 (inside_empty a (inside_of a 0 e))) (λ e. of_inside a 0 (rw (eqb-true a 0 e) (empty_inside 0)))

pub keep_grows : (b : Bool) (k s : ℕ) → Inside s (keep b k s)
keep_grows true k s = with_grows s k
keep_grows false k s = λ j. le_refl (bit s j)

-- a set below 2 ^ w has nobody from w on
pub inside_any : (w s n : ℕ) → s < 2 ^ w → w ≤ n → inside s (below n) ≡ true
inside_any w s n h l = of_inside s (below n) (inside_in s (below n) (λ k i. (in_below n k).1 (omega (arith, in_lt w s k h i, l))))
