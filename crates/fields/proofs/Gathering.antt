-- A walk along the members of a set's text. Assumes nothing.
use mathlib.Core.Path.{◌≡◌, refl, sym, ap, ◌∙◌}
use mathlib.Core.Bool.{true, false, not}
use mathlib.Core.Logic.{◌⊎◌, inl, inr, ⊎_elim}
use mathlib.Core.List.Memᴰ
use mathlib.Core.List.{List, [], ◌∷◌, ◌++◌, append_assoc, append-nil, Memᴰ}
use mathlib.Core.List.Memᴰ.{head as here}
use mathlib.Core.List.Memᴰ.{tail as there}
use mathlib.Core.Option.{Option as Maybe, none, some}
use Rattle.std.specs.Prelude.{Some, None}
use Prim.Native.Nat.{ℕ, ◌+◌, ◌-◌, ◌≤◌, ◌<◌}
use native.Mathlib.Omega.{arith}
use lib.Dec.{leb, ltb, eqb}
use lib.ListN.{length, drop}
use borrow.Author.Tests.{eqb-true, le-leb, lt-leb, lt-ltb, le-ltb, leb-true, leb-false, ltb-true, ltb-false}
use Rattle.lemmas.specs.Lists.{any_of, Ascending, ascending}
use Rattle.lemmas.proofs.Any.{any_append, some_any}
use Rattle.lemmas.proofs.Ascending.{ascending_test, test_ascending, ascending_snoc}
use Rattle.lemmas.proofs.Cases.{at_true, at_false}
use Rattle.lemmas.proofs.Tests.{and_intro, and_first, and_later, or_intro_left, or_intro_right, not_true_false, true_or_false}
use Rattle.nodes.specs.declared.Set.{Set}
use Rattle.nodes.specs.Sets.{with, set_of}
use Rattle.nodes.specs.Words.{places, num, as_set}
use Rattle.nodes.proofs.Gather.{list_snoc}
use Rattle.nodes.proofs.Words.{as_num}
use Rattle.format.specs.Cut.{space, pieces}
use Rattle.format.specs.Fields.{number_of, in_front, numbers_of, members_of, no_set, set_of_these, set_in}
use Rattle.fields.specs.Answers.{numbered, member_of, gathered}
use Rattle.fields.proofs.Told.{none_not, same_number, told_none, told_number}

-- ---- one member
module _ (lowest : ℕ) where
  pub member_none : (o : Maybe ℕ) → None ≡ numbered o → None ≡ member_of lowest o
  unfolding member_of
  member_none o e = ap (member_of lowest) (sym (told_none o e))

  module _ {m : ℕ} where
    so : (o : Maybe ℕ) → Some m ≡ numbered o → member_of lowest (some m) ≡ member_of lowest o
    so o e = ap (member_of lowest) (sym (told_number o e))

    pub member_low : (o : Maybe ℕ) → Some m ≡ numbered o → m < lowest → None ≡ member_of lowest o
    unfolding member_of
    member_low o e h = at_false (Some m) (and_first (ltb m places) (lt-leb lowest m h)) refl ∙ so o e

    pub member_high : (o : Maybe ℕ) → Some m ≡ numbered o → places ≤ m → None ≡ member_of lowest o
    unfolding member_of
    member_high o e h = at_false (Some m) (and_later (leb lowest m) (le-ltb m places h)) refl ∙ so o e

    pub member_is : (o : Maybe ℕ) → Some m ≡ numbered o → lowest ≤ m → m < places → Some m ≡ member_of lowest o
    unfolding member_of
    member_is o e l h = at_true None (and_intro (leb lowest m) (ltb m places) (le-leb lowest m l) (lt-ltb m places h)) refl ∙ so o e

  -- ---- and back
  wrong_member : (m : ℕ) → None ≡ member_of lowest (some m) → (m < lowest) ⊎ (places ≤ m)
  unfolding member_of
  wrong_member m e =
      ⊎_elim
      (λ (l : leb lowest m ≡ true).
      ⊎_elim
      (λ (h : ltb m places ≡ true).
      absurd (none_not (e ∙ sym (at_true None (and_intro (leb lowest m) (ltb m places) l h) refl))))
      (λ (h : ltb m places ≡ false). inr (ltb-false m places h))
      (true_or_false (ltb m places)))
      (λ (l : leb lowest m ≡ false). inl (leb-false lowest m l))
      (true_or_false (leb lowest m))

  record Right (m : ℕ) (o : Maybe ℕ) : Type 0 where
    pub is : o ≡ some m
    pub above : lowest ≤ m
    pub placed : m < places

  right_member : (m : ℕ) (o : Maybe ℕ) → Some m ≡ member_of lowest o → Right m o
  unfolding member_of
  right_member m none e = absurd (none_not (sym e))
  right_member m (some n) e =
      ⊎_elim
      (λ (l : leb lowest n ≡ true).
      ⊎_elim
      (λ (h : ltb n places ≡ true).
      let q : m ≡ n = same_number (e ∙ sym (at_true None (and_intro (leb lowest n) (ltb n places) l h) refl)) in
      record { is = ap some (sym q); above = omega (arith, leb-true lowest n l); placed = omega (arith, ltb-true n places h) })
      (λ (h : ltb n places ≡ false). absurd (none_not (at_false (Some n) (and_later (leb lowest n) h) refl ∙ sym e)))
      (true_or_false (ltb n places)))
      (λ (l : leb lowest n ≡ false). absurd (none_not (at_false (Some n) (and_first (ltb n places) l) refl ∙ sym e)))
      (true_or_false (leb lowest n))

-- ---- members that come behind others
pub prepend : List ℕ → Maybe (List ℕ) → Maybe (List ℕ)
prepend d none = none
prepend d (some ms) = some (d ++ ms)

prepend_none : (o : Maybe (List ℕ)) → o ≡ prepend [] o
unfolding prepend
prepend_none none = refl
prepend_none (some ms) = refl

prepend_one : (d : List ℕ) (m : ℕ) (o : Maybe (List ℕ)) → prepend d (in_front (some m) o) ≡ prepend (d ++ m ∷ []) o
unfolding prepend
prepend_one d m none = refl
prepend_one d m (some ms) = ap some (sym (append_assoc d (m ∷ []) ms))

-- ---- when a list of members is no set
across : (d ms : List ℕ) (m b : ℕ) → Memᴰ b d → Ascending (d ++ m ∷ ms) → b < m
across [] ms m b i a = absurd (elim i [ ])
across (x ∷ d) ms m b (here e) a = let h = a.0 m (Memᴰ.append_right d (here refl)) in omega arith
across (x ∷ d) ms m b (there i) a = across d ms m b i a.1

module _ (d : List ℕ) (m : ℕ) where
  no_order : (b : ℕ) → Memᴰ b d → m ≤ b → (ms : List ℕ) → no_set (d ++ m ∷ ms) ≡ true
  unfolding no_set
  no_order b i h ms =
      or_intro_left (not (ascending (d ++ m ∷ ms))) (any_of (leb places) (d ++ m ∷ ms))
      (ap not
      (not_true_false (ascending (d ++ m ∷ ms)) (λ t. let q = across d ms m b i (test_ascending (d ++ m ∷ ms) t) in omega arith)))

  no_place : places ≤ m → (ms : List ℕ) → no_set (d ++ m ∷ ms) ≡ true
  unfolding no_set
  no_place h ms =
      or_intro_right (not (ascending (d ++ m ∷ ms))) (any_of (leb places) (d ++ m ∷ ms))
      (some_any (leb places) (d ++ m ∷ ms) m (Memᴰ.append_right d (here refl)) (le-leb places m h))

  -- such a list is refused, whatever follows
  refused_so : ((ms : List ℕ) → no_set (d ++ m ∷ ms) ≡ true) → (o : Maybe (List ℕ)) → none ≡ set_of_these (prepend d (in_front (some m) o))
  unfolding prepend
  refused_so h none = refl
  refused_so h (some ms) = at_true (some (set_of (d ++ m ∷ ms))) (h ms) refl

is_set : (d : List ℕ) → Ascending d → any_of (leb places) d ≡ false → some (set_of d) ≡ set_of_these (some d)
unfolding no_set
is_set d a p =
    let no : no_set d ≡ false = rw (ascending_test d a) p in
    at_false none no refl

-- ---- on the way: the members that were read, of so many pieces, and those that are left
pub numbers_left : List ℕ → ℕ → Maybe (List ℕ)
numbers_left w i = numbers_of (drop i (pieces space w))

pub record Gathering (w : List ℕ) (s : Set) (lowest i : ℕ) : Type 0 where
  pub done : List ℕ
  pub left : members_of w ≡ prepend done (numbers_left w i)
  pub set : num s ≡ set_of done
  pub ascends : Ascending done
  pub placed : any_of (leb places) done ≡ false
  pub below : (b : ℕ) → Memᴰ b done → b < lowest
  pub last : (lowest ≡ 0) ⊎ Memᴰ (lowest - 1) done

pub set_empty : (w : List ℕ) (s : Set) → eqb (length w) 0 ≡ true → num s ≡ 0 → Some s ≡ gathered (set_in w)
unfolding set_in members_of no_set set_of gathered
set_empty [] s h e = ap Some (sym (as_num s) ∙ ap as_set e)
set_empty (x ∷ w) s h e = absurd (omega (arith, eqb-true _ _ h))

all_left : (w : List ℕ) → eqb (length w) 0 ≡ false → members_of w ≡ prepend [] (numbers_left w 0)
unfolding members_of numbers_left
all_left [] h = absurd cc
all_left (x ∷ w) h = prepend_none (numbers_left (x ∷ w) 0)

pub gathering_start : (w : List ℕ) (s : Set) → eqb (length w) 0 ≡ false → num s ≡ 0 → Gathering w s 0 0
unfolding set_of
gathering_start w s h e = record {
  done = [];
  left = all_left w h;
  set = e;
  ascends = tt;
  placed = refl;
  below = λ b i. absurd (elim i [ ]);
  last = inl refl;
}

module _ (w : List ℕ) (s : Set) (lowest i : ℕ) (g : Gathering w s lowest i) where
  -- the member at this place
  module _ {piece : List ℕ} (at : drop i (pieces space w) ≡ piece ∷ drop (i + 1) (pieces space w)) where
    split : members_of w ≡ prepend g.done (in_front (number_of piece) (numbers_left w (i + 1)))
    unfolding numbers_left numbers_of
    split = g.left ∙ ap (λ (ps : List (List ℕ)). prepend g.done (numbers_of ps)) at

    wrong_so : (o : Maybe ℕ) → None ≡ member_of lowest o → none ≡ set_of_these (prepend g.done (in_front o (numbers_left w (i + 1))))
    unfolding prepend member_of
    wrong_so none e = refl
    wrong_so (some m) e =
        refused_so g.done m
        (⊎_elim
        (λ (l : m < lowest).
        ⊎_elim
        (λ (z : lowest ≡ 0). absurd (omega arith))
        (λ (i : Memᴰ (lowest - 1) g.done). no_order g.done m (lowest - 1) i (omega arith))
        g.last)
        (λ (h : places ≤ m). no_place g.done m h)
        (wrong_member lowest m e))
        (numbers_left w (i + 1))

    pub gathering_wrong : None ≡ member_of lowest (number_of piece) → None ≡ gathered (set_in w)
    unfolding set_in gathered
    gathering_wrong e = ap gathered (wrong_so (number_of piece) e ∙ ap set_of_these (sym split))

    module _ {m : ℕ} (e : Some m ≡ member_of lowest (number_of piece)) where
      right : Right lowest m (number_of piece)
      right = right_member lowest m (number_of piece) e

      pub gathering_next : {t : Set} → num t ≡ with (num s) m → Gathering w t (m + 1) (i + 1)
      gathering_next f = record {
        done = g.done ++ m ∷ [];
        left =
            split ∙ ap (λ (o : Maybe ℕ). prepend g.done (in_front o (numbers_left w (i + 1)))) right.is
            ∙ prepend_one g.done m (numbers_left w (i + 1));
        set = f ∙ ap (λ (x : ℕ). with x m) g.set ∙ list_snoc g.done m;
        ascends = ascending_snoc g.done m (λ b i. let q = g.below b i in omega (arith, right.above)) g.ascends;
        placed = any_append (leb places) g.done (m ∷ []) g.placed (rw (lt-leb places m right.placed) refl);
        below = λ b i.
            ⊎_elim
            (λ (j : Memᴰ b g.done). let q = g.below b j in omega (arith, right.above))
            (λ (j : Memᴰ b (m ∷ [])). let q = Memᴰ.eq_of_singleton j in omega arith)
            (Memᴰ.append_cases g.done i);
        last = inr (Memᴰ.append_right g.done (here (let q : m + 1 - 1 ≡ m = omega arith in q)));
      }

  pub gathering_all : drop i (pieces space w) ≡ [] → Some s ≡ gathered (set_in w)
  unfolding set_in numbers_left numbers_of prepend gathered
  gathering_all h =
      ap Some (sym (as_num s) ∙ ap as_set g.set)
      ∙ ap gathered
      (is_set g.done g.ascends g.placed
      ∙ ap set_of_these
      (sym
      (g.left ∙ ap (λ (ps : List (List ℕ)). prepend g.done (numbers_of ps)) h
      ∙ ap some (append-nil g.done))))
