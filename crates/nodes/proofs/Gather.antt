-- The nodes that meet a test, and the numbers in a list, as a set: for every width. Assumes nothing.
use mathlib.Core.Path.{◌≡◌, refl, sym, ap, ◌∙◌}
use mathlib.Core.Bool.{Bool, true, false}
use mathlib.Core.Logic.{◌⊎◌, inl, inr, ⊎_elim, ◌↔◌}
use mathlib.Core.List.Memᴰ
use mathlib.Core.List.{List, [], ◌∷◌, ◌++◌, Memᴰ}
use mathlib.Core.List.Memᴰ.{head as here}
use mathlib.Core.List.Memᴰ.{tail as there}
use Prim.Native.Nat.{ℕ, zero, suc, ◌+◌, ◌^◌, ◌<◌}
use native.Mathlib.Nat.{le_of_suc-le-suc, not-suc-le-zero, lt_of_lt_of_le, eq-or-lt_of_le, le_refl}
use native.Mathlib.Omega.{arith}
use native.Mathlib.Numerals.{add-one}
use native.Mathlib.Decide.{ℕ_discrete}
use lib.Dec.{eqb, lit<}
use lib.Pow.{pow_mono}
use Rattle.nodes.specs.Sets.{In, has, with, keep, gather, set_of}
use Rattle.nodes.proofs.Bit.{bit_above, in_lt, has_in, in_has, out_has, has_bit, bit_empty}
use Rattle.nodes.proofs.Operations.{bit_with_same, bit_with_other, with_lt}
use Rattle.nodes.proofs.Inside.{inside_member, with_grows, same_members}

-- ---- the set of the nodes below n of which f is true
pub gather_lt : (f : ℕ → Bool) (n : ℕ) → gather f n < 2 ^ n
unfolding gather
gather_lt f zero = lit< tt
gather_lt f (suc n) = go (lt_of_lt_of_le (gather_lt f n) (pow_mono (omega arith))) (f n)
  where
    go : gather f n < 2 ^ suc n → (t : Bool) → keep t n (gather f n) < 2 ^ suc n
    go h true = with_lt (suc n) (gather f n) n h (le_refl (suc n))
    go h false = h

pub has_gather : (f : ℕ → Bool) (n k : ℕ) → k < n → has (gather f n) k ≡ f k
unfolding gather
has_gather f zero k h = absurd (not-suc-le-zero h)
has_gather f (suc n) k h = go (has_gather f n k) (eq-or-lt_of_le (le_of_suc-le-suc h)) (f n) refl
  where
    go : (k < n → has (gather f n) k ≡ f k) → (k ≡ n) ⊎ (k < n) → (t : Bool) → f n ≡ t → has (keep t n (gather f n)) k ≡ f k
    go ih (inl q) true e = rw q (in_has _ _ (bit_with_same (gather f n) n) ∙ sym e)
    go ih (inl q) false e = rw q (out_has _ _ (bit_above n (gather f n) n (gather_lt f n) (le_refl n)) ∙ sym e)
    go ih (inr q) true e =
        has_bit _ k ∙ ap (λ (x : ℕ). eqb x 1) (bit_with_other (gather f n) n k (λ r. omega arith)) ∙ sym (has_bit _ k) ∙ ih q
    go ih (inr q) false e = ih q

pub gather_in : (f : ℕ → Bool) (n k : ℕ) → k < n → f k ≡ true → In k (gather f n)
gather_in f n k h e = has_in _ _ (has_gather f n k h ∙ e)

pub in_gather : (f : ℕ → Bool) (n k : ℕ) → In k (gather f n) → (k < n) × (f k ≡ true)
in_gather f n k i =
    let l = in_lt n (gather f n) k (gather_lt f n) i in
    (l, sym (has_gather f n k l) ∙ in_has _ _ i)

-- two tests that say the same of every node below n
pub gather_same : (f g : ℕ → Bool) (n : ℕ) → ((k : ℕ) → k < n → f k ≡ g k) → gather f n ≡ gather g n
gather_same f g n e = same_members _ _ (λ k. (
  λ m. let p = in_gather f n k m in gather_in g n k p.0 (sym (e k p.0) ∙ p.1),
  λ m. let p = in_gather g n k m in gather_in f n k p.0 (e k p.0 ∙ p.1),
))

-- one node more, as a loop gathers them
pub gather_none : (f : ℕ → Bool) → gather f 0 ≡ 0
unfolding gather
gather_none f = refl

pub gather_next : (f : ℕ → Bool) (s k : ℕ) (b : Bool) → s ≡ gather f k → f k ≡ b → keep b k s ≡ gather f (k + 1)
unfolding gather
gather_next f s k b e t = rw (add-one k, ← e) (sym (ap (λ (x : Bool). keep x k s) t))

-- ---- the set of the numbers in a list
pub list_in : (l : List ℕ) (k : ℕ) → Memᴰ k l → In k (set_of l)
unfolding set_of
list_in (x ∷ l) k (here e) = rw e (bit_with_same (set_of l) x)
list_in (x ∷ l) k (there m) = inside_member (set_of l) (with (set_of l) x) k (with_grows (set_of l) x) (list_in l k m)
list_in [] k x' = elim x' [ ]

pub in_list : (l : List ℕ) (k : ℕ) → In k (set_of l) → Memᴰ k l
unfolding set_of
in_list [] k i = absurd (let z = bit_empty k in omega arith)
in_list (x ∷ l) k i = elim (ℕ_discrete k x) [
  | yes e ↦ here e
  | no e ↦ there (in_list l k (sym (bit_with_other (set_of l) x k e) ∙ i))
]

-- a list of numbers is as a set what its members are
same_list : (l m : List ℕ) → ((k : ℕ) → Memᴰ k l ↔ Memᴰ k m) → set_of l ≡ set_of m
same_list l m f = same_members _ _ (λ k. (λ i. list_in m k ((f k).0 (in_list l k i)), λ i. list_in l k ((f k).1 (in_list m k i))))

-- one number more at the end
pub list_snoc : (l : List ℕ) (k : ℕ) → with (set_of l) k ≡ set_of (l ++ k ∷ [])
unfolding set_of
list_snoc l k =
    same_list (k ∷ l) (l ++ k ∷ [])
    (λ j. (
      λ m. elim m [ here e ↦ Memᴰ.append_right l (here e) | there t ↦ Memᴰ.append_left (k ∷ []) t ],
      λ m. ⊎_elim (λ (t : Memᴰ j l). there t) (λ (t : Memᴰ j (k ∷ [])). here (Memᴰ.eq_of_singleton t)) (Memᴰ.append_cases l m),
    ))
