-- Where the pieces of a text end, as a walk finds them. Assumes nothing.
use mathlib.Core.Path.{◌≡◌, refl, sym, ap, ap₂, ◌∙◌}
use mathlib.Core.Bool.{Bool, true, false, cond}
use mathlib.Core.Logic.{⊎_elim}
use mathlib.Core.List.{List, [], ◌∷◌}
use Prim.Native.Nat.{ℕ, suc, ◌+◌, ◌-◌, ◌≤◌, ◌<◌}
use native.Mathlib.Numerals.{add-one}
use native.Mathlib.Omega.{arith}
use lib.Dec.{eqb, ltb}
use lib.ListN.{length, get_or, take, drop, drop_of_length-le, length-drop}
use lib.Seq.{drop-cons, drop-drop}
use borrow.Author.Tests.{eqb-true, le-leb, lt-leb, ltb-true, ltb-false}
use Rattle.std.specs.Prelude.{Option, Some, None}
use Rattle.std.specs.Option.{unwrap_or}
use Rattle.std.specs.List.{slice_split, position_or_len}
use Rattle.std.proofs.lemmas.Grind.{common_steps}
use Rattle.std.proofs.lemmas.List.Recursion.{is_position_or_len}
use Rattle.lemmas.proofs.Cases.{at_true, at_false}
use Rattle.lemmas.proofs.Tests.{true_or_false}
use Rattle.format.specs.Cut.{line_end, onto, pieces, lines_of}
use Rattle.fields.specs.Ends.{up_to, up_to_end, pieces_from}

-- the text from a place on, one byte further
pub here : (s : List ℕ) (i : ℕ) → i < length s → drop i s ≡ get_or s i 0 ∷ drop (i + 1) s
here s i h = drop-cons s i 0 h ∙ ap (λ (k : ℕ). get_or s i 0 ∷ drop k s) (sym (add-one i))

-- ---- a byte
pub up_le : (b : ℕ) (l : List ℕ) → up_to b l ≤ length l
unfolding up_to
up_le b [] = omega arith
up_le b (x ∷ l) = go (eqb x b) (up_le b l)
  where
    go : (t : Bool) → up_to b l ≤ length l → cond t 0 (suc (up_to b l)) ≤ suc (length l)
    go true h = omega arith
    go false h = omega arith

up_first : (b : ℕ) (l : List ℕ) → up_to b l ≡ position_or_len (λ x. eqb x b) l
unfolding up_to
up_first b = is_position_or_len (up_to b) (λ x. eqb x b) refl (λ x l. ap (cond (eqb x b) 0) (let q : suc (up_to b l) ≡ 1 + up_to b l = omega arith in q))

-- where a byte stands, if it stands there at all; or else the end
pub found_or_end : (b : ℕ) (l : List ℕ) (o : Option ℕ)
    → o ≡ cond (ltb (position_or_len (λ x. eqb x b) l) (length l)) (Some (position_or_len (λ x. eqb x b) l)) None
    → unwrap_or o (length l) ≡ up_to b l
found_or_end b l o e = rw e (rw (← up_first b l) (within (up_to b l) (length l) (up_le b l)))
  where
    within : (a n : ℕ) → a ≤ n → unwrap_or (cond (ltb a n) (Some a) None) n ≡ a
    within a n h = grind (arith, common_steps)

-- the pieces behind the first
unfoldable later_pieces : ℕ → List ℕ → List (List ℕ)
later_pieces b [] = []
later_pieces b (x ∷ l) = cond (eqb x b) (pieces b l) (later_pieces b l)

first_piece : (b : ℕ) (l : List ℕ) → pieces b l ≡ take (up_to b l) l ∷ later_pieces b l
unfolding pieces up_to later_pieces
first_piece b [] = refl
first_piece b (x ∷ l) = go (eqb x b) (first_piece b l)
  where
    go : (t : Bool) → pieces b l ≡ take (up_to b l) l ∷ later_pieces b l
        → cond t ([] ∷ pieces b l) (onto x (pieces b l)) ≡ take (cond t 0 (suc (up_to b l))) (x ∷ l) ∷ cond t (pieces b l) (later_pieces b l)
    go true e = refl
    go false e = ap (onto x) e

-- if the text goes on, they are those of what stands behind the b; if not, there are none
later_some : (b : ℕ) (l : List ℕ) → up_to b l < length l → later_pieces b l ≡ pieces b (drop (suc (up_to b l)) l)
unfolding up_to later_pieces
later_some b [] h = absurd (omega arith)
later_some b (x ∷ l) h = go (eqb x b) h (later_some b l)
  where
    go : (t : Bool) → cond t 0 (suc (up_to b l)) < suc (length l) → (up_to b l < length l → later_pieces b l ≡ pieces b (drop (suc (up_to b l)) l))
        → cond t (pieces b l) (later_pieces b l) ≡ pieces b (drop (cond t 0 (suc (up_to b l))) l)
    go true h ih = refl
    go false h ih = ih (omega arith)

later_none : (b : ℕ) (l : List ℕ) → length l ≤ up_to b l → later_pieces b l ≡ []
unfolding up_to later_pieces
later_none b [] h = refl
later_none b (x ∷ l) h = go (eqb x b) h (later_none b l)
  where
    go : (t : Bool) → suc (length l) ≤ cond t 0 (suc (up_to b l)) → (length l ≤ up_to b l → later_pieces b l ≡ []) → cond t (pieces b l) (later_pieces b l) ≡ []
    go true h ih = absurd (omega arith)
    go false h ih = ih (omega arith)

-- as a walk goes from piece to piece
pieces_here : (b : ℕ) (l : List ℕ) (from : ℕ) → from ≤ length l → pieces_from b l from ≡ pieces b (drop from l)
unfolding pieces_from
pieces_here b l from h = sym (at_true [] (le-leb from (length l) h) refl)

module _ (b : ℕ) (l : List ℕ) where
  pub pieces_start : pieces_from b l 0 ≡ pieces b l
  pieces_start = pieces_here b l 0 (omega arith)

  pub pieces_none : (from : ℕ) → length l < from → pieces_from b l from ≡ []
  unfolding pieces_from
  pieces_none from h = sym (at_false (pieces b (drop from l)) (lt-leb from (length l) h) refl)

  pub pieces_next : (from end : ℕ) → from ≤ length l → end ≡ from + up_to b (drop from l)
      → pieces_from b l from ≡ take (end - from) (drop from l) ∷ pieces_from b l (end + 1)
  pieces_next from end h e =
      from_here ∙ first_piece b (drop from l)
      ∙ ap₂ (λ (n : ℕ) (ps : List (List ℕ)). take n (drop from l) ∷ ps) (let q : up_to b (drop from l) ≡ end - from = omega arith in q) later
    where
      from_here : pieces_from b l from ≡ pieces b (drop from l)
      from_here = pieces_here b l from h

      later : later_pieces b (drop from l) ≡ pieces_from b l (end + 1)
      later =
          ⊎_elim
          (λ (t : ltb end (length l) ≡ true).
          later_some b (drop from l) (omega (arith, ltb-true end (length l) t, length-drop from l))
          ∙ ap (pieces b) (drop-drop (suc (up_to b (drop from l))) from l ∙ ap (λ (n : ℕ). drop n l) (let q : from + suc (up_to b (drop from l)) ≡ end + 1 = omega arith in q))
          ∙ sym (pieces_here b l (end + 1) (omega (arith, ltb-true end (length l) t))))
          (λ (t : ltb end (length l) ≡ false).
          later_none b (drop from l) (omega (arith, ltb-false end (length l) t, length-drop from l))
          ∙ sym (pieces_none (end + 1) (omega (arith, ltb-false end (length l) t))))
          (true_or_false (ltb end (length l)))

-- ---- the pieces, as a split gives them
pub split_pieces : (b : ℕ) (l : List ℕ) → slice_split (λ x. eqb x b) l ≡ pieces b l
unfolding pieces
split_pieces b [] = refl
split_pieces b (x ∷ l) = ap (λ (ps : List (List ℕ)). cond (eqb x b) ([] ∷ ps) (onto x ps)) (split_pieces b l)

-- at a turn of a loop over them, the piece and those behind it; after the last turn, none
pub split_turn : (b : ℕ) (l : List ℕ) {i : ℕ} {piece : List ℕ} → (i < length (slice_split (λ x. eqb x b) l)) × (piece ≡ get_or (slice_split (λ x. eqb x b) l) i piece)
    → drop i (pieces b l) ≡ piece ∷ drop (i + 1) (pieces b l)
split_turn b l {i} {piece} h =
    ap (drop i) (sym (split_pieces b l)) ∙ drop-cons (slice_split (λ x. eqb x b) l) i piece h.0
    ∙ ap₂ (λ (p : List ℕ) (k : ℕ). p ∷ drop k (slice_split (λ x. eqb x b) l)) (sym h.1) (sym (add-one i))
    ∙ ap (λ (ps : List (List ℕ)). piece ∷ drop (i + 1) ps) (split_pieces b l)

pub split_end : (b : ℕ) (l : List ℕ) {i : ℕ} → i ≡ length (slice_split (λ x. eqb x b) l) → drop i (pieces b l) ≡ []
split_end b l {i} e = ap (drop i) (sym (split_pieces b l)) ∙ drop_of_length-le (slice_split (λ x. eqb x b) l) (omega arith)

-- ---- CR LF
short_end : (l : List ℕ) → length l ≤ 1 → up_to_end l ≡ length l
unfolding up_to_end
short_end [] h = refl
short_end (x ∷ []) h = refl
short_end (x ∷ y ∷ l) h = absurd (omega arith)

module _ (i : ℕ) (s : List ℕ) where
  two : i + 1 < length s → drop i s ≡ get_or s i 0 ∷ get_or s (i + 1) 0 ∷ drop (i + 1 + 1) s
  two h = here s i (omega arith) ∙ ap (λ (x : List ℕ). get_or s i 0 ∷ x) (here s (i + 1) h)

  pub end_found : i + 1 < length s → line_end (get_or s i 0) (get_or s (i + 1) 0) ≡ true → up_to_end (drop i s) ≡ 0
  unfolding up_to_end
  end_found h e = ap up_to_end (two h) ∙ sym (at_true _ e refl)

  pub end_on : i + 1 < length s → line_end (get_or s i 0) (get_or s (i + 1) 0) ≡ false → up_to_end (drop i s) ≡ suc (up_to_end (drop (i + 1) s))
  unfolding up_to_end
  end_on h e = ap up_to_end (two h) ∙ sym (at_false 0 e refl) ∙ ap (λ (x : List ℕ). suc (up_to_end x)) (sym (here s (i + 1) h))

  pub end_none : i ≤ length s → length s ≤ i + 1 → i + up_to_end (drop i s) ≡ length s
  end_none h k = omega (arith, short_end (drop i s) (omega (arith, length-drop i s)), length-drop i s)

-- the first line, and the others
first_line : (x : ℕ) (l : List ℕ) → lines_of (x ∷ l) ≡ take (up_to_end (x ∷ l)) (x ∷ l) ∷ lines_of (drop (suc (suc (up_to_end (x ∷ l)))) (x ∷ l))
unfolding lines_of up_to_end
first_line x [] = refl
first_line x (y ∷ l) = go (line_end x y) (first_line y l)
  where
    go : (t : Bool) → lines_of (y ∷ l) ≡ take (up_to_end (y ∷ l)) (y ∷ l) ∷ lines_of (drop (suc (suc (up_to_end (y ∷ l)))) (y ∷ l))
        → cond t ([] ∷ lines_of l) (onto x (lines_of (y ∷ l)))
        ≡ take (cond t 0 (suc (up_to_end (y ∷ l)))) (x ∷ y ∷ l) ∷ lines_of (drop (suc (suc (cond t 0 (suc (up_to_end (y ∷ l)))))) (x ∷ y ∷ l))
    go true e = refl
    go false e = ap (onto x) e

-- as a walk goes from line to line
pub lines_next : (s : List ℕ) → eqb (length s) 0 ≡ false → lines_of s ≡ take (up_to_end s) s ∷ lines_of (drop (up_to_end s + 2) s)
lines_next [] h = absurd cc
lines_next (x ∷ l) h =
    first_line x l
    ∙ ap (λ (n : ℕ). take (up_to_end (x ∷ l)) (x ∷ l) ∷ lines_of (drop n (x ∷ l))) (let q : suc (suc (up_to_end (x ∷ l))) ≡ up_to_end (x ∷ l) + 2 = omega arith in q)

pub lines_none : (s : List ℕ) → eqb (length s) 0 ≡ true → lines_of s ≡ []
unfolding lines_of
lines_none [] h = refl
lines_none (x ∷ l) h = absurd (omega (arith, eqb-true _ _ h))
