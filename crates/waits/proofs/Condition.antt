-- The condition of a row, kind by kind: that it reads only OUT and is never unmet by more grants, and which sets of the row lie in
-- nobody and in OUT. Assumes nothing.
use mathlib.Core.Path.{◌≡◌, refl, sym, ap, ◌∙◌}
use mathlib.Core.Bool.{true, false, not}
use mathlib.Core.Logic.{inl, inr, ⊎_elim}
use mathlib.Core.List.{Memᴰ}
use mathlib.Core.List.Memᴰ.{head as here}
use mathlib.Core.List.Memᴰ.{tail as there}
use Prim.Native.Nat.{ℕ}
use native.Mathlib.Nat.{le_trans}
use lib.Dec.{leb, eqb}
use borrow.Author.Tests.{leb-true, le-leb, ne_eqb}
use Rattle.lemmas.specs.Lists.{any_of}
use Rattle.lemmas.proofs.Tests.{cond_mono, and_intro, and_left, and_right, same_test, not_true_false, not_both}
use Rattle.lemmas.proofs.Any.{any_some, some_any}
use Rattle.nodes.specs.Sets.{bit, In, union, meet, inside, size}
use Rattle.nodes.specs.Words.{num}
use Rattle.nodes.proofs.Operations.{in_union, in_meet}
use Rattle.nodes.proofs.Inside.{inside_in, inside_of, of_inside, inside_member, inside_empty, none_in}
use Rattle.nodes.proofs.Size.{size_mono}
use Rattle.waits.specs.declared.rows.Row.{Row}
use Rattle.waits.specs.Rows.{sets_of, later_of, out_of, lies_in, holds_of}

-- ---- each kind by itself
module _ (r : Row) (g : ℕ) where
  pub holds_0 : r.kind ≡ 0 → holds_of r g ≡ true
  unfolding holds_of
  holds_0 e = rw e

  pub holds_1 : r.kind ≡ 1 → holds_of r g ≡ leb r.threshold (size (meet (num r.first) g))
  unfolding holds_of
  holds_1 e = rw e

  pub holds_2 : r.kind ≡ 2 → holds_of r g ≡ any_of (λ q. lies_in q g) (sets_of r)
  unfolding holds_of
  holds_2 e = rw e

-- ---- a set of a row has only members of OUT
pub out_first : (r : Row) (k : ℕ) → In k (num r.first) → In k (out_of r)
unfolding out_of
out_first r k i = (in_union (num r.first) (later_of r) k).1 (inl i)

pub out_later : (r : Row) (k : ℕ) → In k (later_of r) → In k (out_of r)
unfolding out_of
out_later r k i = (in_union (num r.first) (later_of r) k).1 (inr i)

pub out_set : (r : Row) (q k : ℕ) → Memᴰ q (sets_of r) → In k q → In k (out_of r)
unfolding later_of
out_set r q k (here e) i = out_first r k (rw e at i)
out_set r q k (there (here e)) i =
    out_later r k ((in_union (num r.second) (union (num r.third) (num r.fourth)) k).1 (inl (rw e at i)))
out_set r q k (there (there (here e))) i =
    out_later r k ((in_union (num r.second) (union (num r.third) (num r.fourth)) k).1 (inr ((in_union (num r.third) (num r.fourth) k).1 (inl (rw e at i)))))
out_set r q k (there (there (there (here e)))) i =
    out_later r k ((in_union (num r.second) (union (num r.third) (num r.fourth)) k).1 (inr ((in_union (num r.third) (num r.fourth) k).1 (inr (rw e at i)))))
out_set r q k (there (there (there (there m)))) i = absurd (elim m [ ])

-- and each member of OUT is in one of them
pub out_in_set : (r : Row) (k : ℕ) → In k (out_of r) → (q : ℕ) × Memᴰ q (sets_of r) × In k q
unfolding out_of later_of
out_in_set r k i =
    ⊎_elim
    (λ a. (num r.first, here refl, a))
    (λ l. ⊎_elim
    (λ b. (num r.second, there (here refl), b))
    (λ m. ⊎_elim
    (λ c. (num r.third, there (there (here refl)), c))
    (λ d. (num r.fourth, there (there (there (here refl))), d))
    ((in_union (num r.third) (num r.fourth) k).0 m))
    ((in_union (num r.second) (union (num r.third) (num r.fourth)) k).0 l))
    ((in_union (num r.first) (later_of r) k).0 i)

-- ---- more grants among the members of OUT never unmeet it
module _ (r : Row) (g h : ℕ) (f : (j : ℕ) → In j (out_of r) → In j g → In j h) where
  more_count : leb r.threshold (size (meet (num r.first) g)) ≡ true → leb r.threshold (size (meet (num r.first) h)) ≡ true
  more_count e =
      le-leb _ _
      (le_trans (leb-true _ _ e)
      (size_mono (meet (num r.first) g) (meet (num r.first) h)
      (inside_in _ _ (λ k i. let p = (in_meet (num r.first) g k).0 i in (in_meet (num r.first) h k).1 (p.0, f k (out_first r k p.0) p.1)))))

  more_lies : (q : ℕ) → Memᴰ q (sets_of r) → lies_in q g ≡ true → lies_in q h ≡ true
  unfolding lies_in
  more_lies q m e =
      and_intro (not (eqb q 0)) (inside q h) (and_left (not (eqb q 0)) (inside q g) e)
      (of_inside q h (inside_in q h (λ k i. f k (out_set r q k m i) (inside_member q g k (inside_of q g (and_right (not (eqb q 0)) (inside q g) e)) i))))

  more_sets : any_of (λ q. lies_in q g) (sets_of r) ≡ true → any_of (λ q. lies_in q h) (sets_of r) ≡ true
  more_sets e = let s = any_some (λ q. lies_in q g) (sets_of r) e in some_any (λ q. lies_in q h) (sets_of r) s.0 s.1 (more_lies s.0 s.1 s.2)

  pub holds_more : holds_of r g ≡ true → holds_of r h ≡ true
  unfolding holds_of
  holds_more = cond_mono (eqb r.kind 0) (λ e. e) (cond_mono (eqb r.kind 1) more_count (cond_mono (eqb r.kind 2) more_sets (λ e. e)))

-- so it reads only the members of OUT
pub holds_local : (r : Row) (g h : ℕ) → ((j : ℕ) → In j (out_of r) → bit g j ≡ bit h j) → holds_of r g ≡ holds_of r h
holds_local r g h f =
    same_test (holds_of r g) (holds_of r h) (holds_more r g h (λ j o i. sym (f j o) ∙ i)) (holds_more r h g (λ j o i. f j o ∙ i))

-- ---- with nobody granting
pub lies_in_empty : (q : ℕ) → lies_in q 0 ≡ false
unfolding lies_in
lies_in_empty q =
    not_true_false _
    (λ e.
    let none : q ≡ 0 = inside_empty q (inside_of q 0 (and_right (not (eqb q 0)) (inside q 0) e)) in
    let z : not (eqb q 0) ≡ false = ap (λ (x : ℕ). not (eqb x 0)) none in
    not_both (and_left (not (eqb q 0)) (inside q 0) e) z)

-- ---- with all of OUT granting
pub lies_in_out : (r : Row) (q k : ℕ) → Memᴰ q (sets_of r) → In k q → lies_in q (out_of r) ≡ true
unfolding lies_in
lies_in_out r q k m i =
    and_intro (not (eqb q 0)) (inside q (out_of r)) (ap not (ne_eqb q 0 (λ z. none_in q k z i)))
    (of_inside q (out_of r) (inside_in q (out_of r) (λ j. out_set r q j m)))
