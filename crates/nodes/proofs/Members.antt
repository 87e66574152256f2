-- The members of a set as an ascending list: for every width. Assumes nothing.
use mathlib.Core.Path.{◌≡◌, refl, sym, ap, ap₂, ◌∙◌}
use mathlib.Core.Bool.{Bool, true, false}
use mathlib.Core.Logic.{◌⊎◌, inl, inr, ⊎_elim, ◌↔◌}
use mathlib.Core.List.{List, [], ◌∷◌, ◌++◌, append_assoc, append-nil, Memᴰ}
use mathlib.Core.List.Memᴰ.{head as here}
use Prim.Native.Nat.{ℕ, zero, suc, ◌+◌, ◌*◌, ◌/◌, ◌%◌, ◌^◌, ◌≤◌, ◌<◌}
use native.Mathlib.Nat.{le_refl, not-suc-le-zero, add-zero, add-suc, suc-add, mul-one, mod-lt, eq-or-lt_of_le, le_of_suc-le-suc, mod-eq_of_lt, add_comm, zero-add}
use native.Mathlib.Omega.{arith}
use native.Mathlib.Numerals.{add-one}
use native.Mathlib.Decide.{le_ind}
use lib.Dec.{eqb}
use lib.Arith.{half_le, lt-one}
use lib.Pow.{pow_pos, shr_lt, mod-pow-add}
use lib.Bits.{block_half, block_odd}
use Rattle.lemmas.specs.Lists.{Ascending, Once}
use Rattle.lemmas.proofs.Ascending.{ascending_snoc, ascending_unique, ascending_once}
use Rattle.nodes.specs.Sets.{bit, In, has, only, members_from, members, set_of}
use Rattle.nodes.proofs.Bit.{bit_le, in_or_out, in_lt, has_in, in_has, pow_gt, empty_same}
use Rattle.nodes.proofs.Inside.{same_members}
use Rattle.nodes.proofs.Gather.{list_in, in_list}

-- ---- the members from k on, however large the bound of the recursion
more : (f k s : ℕ) → s ≤ f → members_from (suc f) k s ≡ members_from f k s
unfolding members_from
more zero k zero h = refl
more zero k (suc s) h = absurd (not-suc-le-zero h)
more (suc f) k zero h = refl
more (suc f) k (suc s) h = ap (λ (l : List ℕ). only (eqb (suc s % 2) 1) k ++ l) (more f (suc k) (suc s / 2) (half_le h))

enough : (f k s : ℕ) → s ≤ f → members_from f k s ≡ members_from s k s
enough f k s h = le_ind (λ (m : ℕ). members_from m k s ≡ members_from s k s) refl (λ m l e. more m k s l ∙ e) f h

unfoldable pub from : ℕ → ℕ → List ℕ
unfolding members_from
from k s = members_from s k s

pub from_step : (k s : ℕ) → from k s ≡ only (eqb (s % 2) 1) k ++ from (suc k) (s / 2)
unfolding from
from_step k zero = refl
from_step k (suc s) = ap (λ (l : List ℕ). only (eqb (suc s % 2) 1) k ++ l) (enough s (suc k) (suc s / 2) (half_le (le_refl (suc s))))

pub from_none : (k : ℕ) → from k 0 ≡ []
unfolding from
from_none k = refl

-- a number as a high part and a low part of n digits: the low part's members, then the high part's
pub from_cat : (n k hi lo : ℕ) → lo < 2 ^ n → from k (hi * 2 ^ n + lo) ≡ from k lo ++ from (k + n) hi
from_cat zero k hi lo h =
    ap (from k) (ap₂ (λ (x y : ℕ). x + y) (mul-one hi) (lt-one h) ∙ add-zero hi)
    ∙ ap (λ (x : ℕ). from x hi) (sym (add-zero k))
    ∙ ap (λ (l : List ℕ). l ++ from (k + 0) hi) (sym (ap (from k) (lt-one h) ∙ from_none k))
from_cat (suc n) k hi lo h =
    from_step k (hi * 2 ^ suc n + lo)
    ∙ ap₂ (λ (x y : ℕ). only (eqb x 1) k ++ from (suc k) y) (block_odd hi n lo) (block_half hi n lo)
    ∙ ap (λ (l : List ℕ). only (eqb (lo % 2) 1) k ++ l) (from_cat n (suc k) hi (lo / 2) (shr_lt n 1 (rw add-one h)))
    ∙ sym (append_assoc (only (eqb (lo % 2) 1) k) (from (suc k) (lo / 2)) (from (suc k + n) hi))
    ∙ ap₂ (λ (l : List ℕ) (x : ℕ). l ++ from x hi) (sym (from_step k lo)) (suc-add k n ∙ sym (add-suc k n))

pub members_from_lem : (s : ℕ) → members s ≡ from 0 s
unfolding members from
members_from_lem s = refl

-- ---- the members below n are those of the rest by 2 ^ n; one place more
from_digit : (d k : ℕ) → d ≤ 1 → from k d ≡ only (eqb d 1) k
unfolding from
from_digit zero k h = refl
from_digit (suc zero) k h = refl
from_digit (suc (suc d)) k h = absurd (omega arith)

pub members_suc : (s k : ℕ) → members (s % 2 ^ (k + 1)) ≡ members (s % 2 ^ k) ++ only (has s k) k
unfolding bit has
members_suc s k =
    members_from_lem (s % 2 ^ (k + 1))
    ∙ ap (from 0) (ap (λ (x : ℕ). s % 2 ^ x) (add_comm k 1) ∙ mod-pow-add s 1 k)
    ∙ from_cat k 0 (s / 2 ^ k % 2) (s % 2 ^ k) (mod-lt s (pow_pos k))
    ∙ ap₂ (λ (l m : List ℕ). l ++ m) (sym (members_from_lem (s % 2 ^ k)))
    (ap (λ (x : ℕ). from x (s / 2 ^ k % 2)) (zero-add k) ∙ from_digit (s / 2 ^ k % 2) k (bit_le s k))

pub members_none : (s : ℕ) → members (s % 2 ^ 0) ≡ []
members_none s = ap members (lt-one (mod-lt s (pow_pos 0))) ∙ members_from_lem 0 ∙ from_none 0

pub members_all : (w s : ℕ) → s < 2 ^ w → members (s % 2 ^ w) ≡ members s
members_all w s h = ap members (mod-eq_of_lt h)

-- ---- which they are, and in which order
only_cases : (b : Bool) (k j : ℕ) → Memᴰ j (only b k) → (j ≡ k) × (b ≡ true)
only_cases true k j m = (mathlib.Core.List.Memᴰ.eq_of_singleton m, refl)
only_cases false k j m = absurd (elim m [ ])

below_members : (s n j : ℕ) → Memᴰ j (members (s % 2 ^ n)) → (j < n) × In j s
below_members s zero j m = absurd (none (rw (members_none s) at m))
  where
    none : Memᴰ j [] → ⊥
    none p = elim p [ ]
below_members s (suc n) j m =
    let ih = below_members s n j in
    ⊎_elim
    (λ (p : Memᴰ j (members (s % 2 ^ n))). let q = ih p in (omega arith, q.1))
    (λ (p : Memᴰ j (only (has s n) n)). let q = only_cases (has s n) n j p in (omega arith, ap (bit s) q.0 ∙ has_in s n q.1))
    (mathlib.Core.List.Memᴰ.append_cases (members (s % 2 ^ n)) (rw (← add-one n, members_suc s n) at m))

members_below : (s n j : ℕ) → j < n → In j s → Memᴰ j (members (s % 2 ^ n))
members_below s zero j h i = absurd (not-suc-le-zero h)
members_below s (suc n) j h i =
    let ih = members_below s n j in
    rw (← add-one n, members_suc s n)
    (⊎_elim
    (λ (q : j ≡ n). mathlib.Core.List.Memᴰ.append_right (members (s % 2 ^ n)) (rw (in_has s n (ap (bit s) (sym q) ∙ i)) (here q)))
    (λ (q : j < n). mathlib.Core.List.Memᴰ.append_left (only (has s n) n) (ih q i))
    (eq-or-lt_of_le (le_of_suc-le-suc h)))

below_ascending : (s n : ℕ) → Ascending (members (s % 2 ^ n))
below_ascending s zero = rw (members_none s) tt
below_ascending s (suc n) = rw (← add-one n, members_suc s n) (go (has s n) (below_ascending s n))
  where
    go : (b : Bool) → Ascending (members (s % 2 ^ n)) → Ascending (members (s % 2 ^ n) ++ only b n)
    go true a = ascending_snoc (members (s % 2 ^ n)) n (λ b m. (below_members s n b m).0) a
    go false a = rw (append-nil (members (s % 2 ^ n))) a

pub members_in : (s j : ℕ) → Memᴰ j (members s) ↔ In j s
members_in s j = (
  λ m. (below_members s s j (rw (members_all s s (pow_gt s)) m)).1,
  λ i. rw (members_all s s (pow_gt s)) at (members_below s s j (in_lt s s j (pow_gt s) i) i),
)

pub members_ascending : (s : ℕ) → Ascending (members s)
members_ascending s = rw (members_all s s (pow_gt s)) at (below_ascending s s)

pub members_once : (s : ℕ) → Once (members s)
members_once s = ascending_once (members s) (members_ascending s)

-- Law: an ascending list is the list of its set's members.
pub members_list : (l : List ℕ) → Ascending l → members (set_of l) ≡ l
members_list l up =
    ascending_unique (members (set_of l)) l (members_ascending (set_of l)) up
    (λ k. (λ m. in_list l k ((members_in (set_of l) k).0 m), λ m. (members_in (set_of l) k).1 (list_in l k m)))

-- and a set is that of its members
pub set_members : (s : ℕ) → set_of (members s) ≡ s
set_members s = same_members _ _ (λ k. (λ i. (members_in s k).0 (in_list (members s) k i), λ i. list_in (members s) k ((members_in s k).1 i)))

-- a set is empty, or has a member
pub none_or_some : (s : ℕ) → (s ≡ 0) ⊎ ((k : ℕ) × In k s)
none_or_some s = go (members s) refl
  where
    go : (l : List ℕ) → members s ≡ l → (s ≡ 0) ⊎ ((k : ℕ) × In k s)
    go [] e = inl (empty_same s (λ k. ⊎_elim (λ i. absurd (elim (rw e at ((members_in s k).1 i)) [ ])) (λ z. z) (in_or_out s k)))
    go (x ∷ l) e = inr (x, (members_in s x).0 (rw e (here refl)))
