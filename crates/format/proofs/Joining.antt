-- Cutting a text and putting pieces together undo each other. Assumes nothing.
use mathlib.Core.Path.{◌≡◌, refl, sym, ap, ap₂, ◌∙◌}
use mathlib.Core.Bool.{Bool, true, false, ◌||◌}
use mathlib.Core.Logic.{⊎_elim}
use mathlib.Core.List.{List, [], ◌∷◌, ◌++◌, append-nil, append_assoc}
use Prim.Native.Nat.{ℕ}
use native.Mathlib.Omega.{arith}
use lib.Dec.{eqb}
use borrow.Author.Tests.{eqb-true, eqb-false, eq-eqb, ne_eqb}
use Rattle.lemmas.specs.Lists.{any_of}
use Rattle.lemmas.proofs.Cases.{at_true, at_false, both_branches}
use Rattle.lemmas.proofs.Tests.{true_or_false, and_left, and_right, and_first, and_later, or_left_false, or_right_false}
use Rattle.lemmas.proofs.Any.{any_append}
use Rattle.format.specs.Cut.{cr, lf, line_end, onto, pieces, lines_of, behind, joined, ended}

-- no piece has a byte that meets the test
abbrev pub Free : (ℕ → Bool) → List (List ℕ) → Type 0
Free p [] = Unit {0}
Free p (w ∷ ws) = (any_of p w ≡ false) × Free p ws

-- ---- at one byte
module _ (b : ℕ) where
  pieces_here : (x : ℕ) (l : List ℕ) → eqb x b ≡ true → pieces b (x ∷ l) ≡ [] ∷ pieces b l
  unfolding pieces
  pieces_here x l e = sym (at_true (onto x (pieces b l)) e refl)

  pieces_on : (x : ℕ) (l : List ℕ) → eqb x b ≡ false → pieces b (x ∷ l) ≡ onto x (pieces b l)
  unfolding pieces
  pieces_on x l e = sym (at_false ([] ∷ pieces b l) e refl)

  joined_onto : (x : ℕ) (ps : List (List ℕ)) → joined b (onto x ps) ≡ x ∷ joined b ps
  unfolding joined behind
  joined_onto x [] = refl
  joined_onto x (p ∷ ps) = refl

  -- there is a piece
  behind_pieces : (l : List ℕ) → behind b (pieces b l) ≡ b ∷ joined b (pieces b l)
  unfolding pieces behind joined
  behind_pieces [] = refl
  behind_pieces (x ∷ l) = both_branches (λ (ps : List (List ℕ)). behind b ps ≡ b ∷ joined b ps) (eqb x b) refl (with_onto (pieces b l))
    where
      with_onto : (ps : List (List ℕ)) → behind b (onto x ps) ≡ b ∷ joined b (onto x ps)
      with_onto [] = refl
      with_onto (p ∷ ps) = refl

  -- Law: the pieces of a text, put together, are the text.
  pub joined_pieces : (l : List ℕ) → joined b (pieces b l) ≡ l
  unfolding pieces joined behind
  joined_pieces [] = refl
  joined_pieces (x ∷ l) =
      let ih = joined_pieces l in
      ⊎_elim
      (λ (e : eqb x b ≡ true). ap (joined b) (pieces_here x l e) ∙ behind_pieces l ∙ ap₂ (λ (y : ℕ) (m : List ℕ). y ∷ m) (sym (eqb-true x b e)) ih)
      (λ (e : eqb x b ≡ false). ap (joined b) (pieces_on x l e) ∙ joined_onto x (pieces b l) ∙ ap (λ (m : List ℕ). x ∷ m) ih)
      (true_or_false (eqb x b))

  -- ---- and back, where no piece has the byte
  pub other : (x : ℕ) → eqb b x ≡ false → eqb x b ≡ false
  other x e = ne_eqb x b (λ q. eqb-false b x e (sym q))

  pub pieces_alone : (w : List ℕ) → any_of (eqb b) w ≡ false → pieces b w ≡ w ∷ []
  unfolding pieces
  pieces_alone [] e = refl
  pieces_alone (x ∷ w) e =
      pieces_on x w (other x (or_left_false (eqb b x) (any_of (eqb b) w) e)) ∙ ap (onto x) (pieces_alone w (or_right_false (eqb b x) (any_of (eqb b) w) e))

  pub pieces_first : (w l : List ℕ) → any_of (eqb b) w ≡ false → pieces b (w ++ b ∷ l) ≡ w ∷ pieces b l
  pieces_first [] l e = pieces_here b l (eq-eqb b b refl)
  pieces_first (x ∷ w) l e =
      pieces_on x (w ++ b ∷ l) (other x (or_left_false (eqb b x) (any_of (eqb b) w) e))
      ∙ ap (onto x) (pieces_first w l (or_right_false (eqb b x) (any_of (eqb b) w) e))

  -- Law: pieces put together are cut into the same pieces.
  pub pieces_joined : (w : List ℕ) (ws : List (List ℕ)) → Free (eqb b) (w ∷ ws) → pieces b (joined b (w ∷ ws)) ≡ w ∷ ws
  unfolding joined behind
  pieces_joined w [] f = ap (pieces b) (append-nil w) ∙ pieces_alone w f.0
  pieces_joined w (v ∷ ws) f = pieces_first w (joined b (v ∷ ws)) f.0 ∙ ap (λ (r : List (List ℕ)). w ∷ r) (pieces_joined v ws f.1)

-- ---- at the ends of lines
pub end_here : (x y : ℕ) (l : List ℕ) → line_end x y ≡ true → lines_of (x ∷ y ∷ l) ≡ [] ∷ lines_of l
unfolding lines_of
end_here x y l e = sym (at_true (onto x (lines_of (y ∷ l))) e refl)

pub end_later : (x y : ℕ) (l : List ℕ) → line_end x y ≡ false → lines_of (x ∷ y ∷ l) ≡ onto x (lines_of (y ∷ l))
unfolding lines_of
end_later x y l e = sym (at_false ([] ∷ lines_of l) e refl)

-- a CR ends no line before another
pub before_cr : (x : ℕ) → line_end x cr ≡ false
unfolding line_end
before_cr x = and_later (eqb x cr) refl

ended_onto : (x y : ℕ) (l : List ℕ) (ls : List (List ℕ)) → ended ls ≡ y ∷ l → ended (onto x ls) ≡ x ∷ y ∷ l
unfolding ended
ended_onto x y l [] e = absurd (let z : ◌≡◌ {A = ℕ} 0 1 = cc in omega arith)
ended_onto x y l (w ∷ ls) e = ap (λ (m : List ℕ). x ∷ m) e

-- Law: the lines of a text whose last line has its end, each with its end, are the text.
pub ended_lines : (t : List ℕ) → ended (lines_of (t ++ cr ∷ lf ∷ [])) ≡ t ++ cr ∷ lf ∷ []
unfolding lines_of ended line_end
ended_lines [] = refl
ended_lines (x ∷ []) = ap ended (end_later x cr (lf ∷ []) (before_cr x))
ended_lines (x ∷ y ∷ t) =
    let ih = ended_lines t in
    let jh = ended_lines (y ∷ t) in
    let rest = t ++ cr ∷ lf ∷ [] in
    ⊎_elim
    (λ (e : line_end x y ≡ true).
    ap ended (end_here x y rest e)
    ∙ ap₂ (λ (u v : ℕ). u ∷ v ∷ ended (lines_of rest)) (sym (eqb-true x cr (and_left (eqb x cr) (eqb y lf) e))) (sym (eqb-true y lf (and_right (eqb x cr) (eqb y lf) e)))
    ∙ ap (λ (m : List ℕ). x ∷ y ∷ m) ih)
    (λ (e : line_end x y ≡ false). ap ended (end_later x y rest e) ∙ ended_onto x y rest (lines_of (y ∷ rest)) jh)
    (true_or_false (line_end x y))

pub no_end : (x y : ℕ) → eqb cr x ≡ false → line_end x y ≡ false
unfolding line_end
no_end x y e = and_first (eqb y lf) (ne_eqb x cr (λ q. eqb-false cr x e (sym q)))

pub lines_first : (w l : List ℕ) → any_of (eqb cr) w ≡ false → lines_of (w ++ cr ∷ lf ∷ l) ≡ w ∷ lines_of l
unfolding lines_of line_end
lines_first [] l e = refl
lines_first (x ∷ []) l e = end_later x cr (lf ∷ l) (before_cr x)
lines_first (x ∷ y ∷ w) l e =
    end_later x y (w ++ cr ∷ lf ∷ l) (no_end x y (or_left_false (eqb cr x) (any_of (eqb cr) (y ∷ w)) e))
    ∙ ap (onto x) (lines_first (y ∷ w) l (or_right_false (eqb cr x) (any_of (eqb cr) (y ∷ w)) e))

-- Law: lines without a CR, each with its end, are cut into the same lines.
pub lines_ended : (ls : List (List ℕ)) → Free (eqb cr) ls → lines_of (ended ls) ≡ ls
unfolding lines_of ended
lines_ended [] f = refl
lines_ended (w ∷ ls) f = lines_first w (ended ls) f.0 ∙ ap (λ (r : List (List ℕ)). w ∷ r) (lines_ended ls f.1)

-- the last of the lines has its end
pub last_end_lem : (l : List ℕ) (ls : List (List ℕ)) → (t : List ℕ) × (ended (l ∷ ls) ≡ t ++ cr ∷ lf ∷ [])
unfolding ended
last_end_lem l [] = (l, refl)
last_end_lem l (m ∷ ls) =
    let q = last_end_lem m ls in
    (l ++ cr ∷ lf ∷ q.0, ap (λ (x : List ℕ). l ++ cr ∷ lf ∷ x) q.1 ∙ sym (append_assoc l (cr ∷ lf ∷ q.0) (cr ∷ lf ∷ [])))

-- ---- which bytes are in what was put together
module _ (p : ℕ → Bool) where
  parts_free : (l m : List ℕ) → any_of p (l ++ m) ≡ false → (any_of p l ≡ false) × (any_of p m ≡ false)
  parts_free [] m e = (refl, e)
  parts_free (x ∷ l) m e =
      let q = parts_free l m (or_right_false (p x) (any_of p (l ++ m)) e) in
      (ap₂ ◌||◌ (or_left_false (p x) (any_of p (l ++ m)) e) q.0, q.1)

  behind_free : (b : ℕ) (ws : List (List ℕ)) → p b ≡ false → Free p ws → any_of p (behind b ws) ≡ false
  unfolding behind
  behind_free b [] e f = refl
  behind_free b (w ∷ ws) e f = ap₂ ◌||◌ e (any_append p w (behind b ws) f.0 (behind_free b ws e f.1))

  pub joined_free : (b : ℕ) (ws : List (List ℕ)) → p b ≡ false → Free p ws → any_of p (joined b ws) ≡ false
  unfolding joined
  joined_free b [] e f = refl
  joined_free b (w ∷ ws) e f = any_append p w (behind b ws) f.0 (behind_free b ws e f.1)

  free_behind : (b : ℕ) (ws : List (List ℕ)) → any_of p (behind b ws) ≡ false → Free p ws
  unfolding behind
  free_behind b [] e = tt
  free_behind b (w ∷ ws) e =
      let q = parts_free w (behind b ws) (or_right_false (p b) (any_of p (w ++ behind b ws)) e) in
      (q.0, free_behind b ws q.1)

  pub free_joined : (b : ℕ) (ws : List (List ℕ)) → any_of p (joined b ws) ≡ false → Free p ws
  unfolding joined
  free_joined b [] e = tt
  free_joined b (w ∷ ws) e = let q = parts_free w (behind b ws) e in (q.0, free_behind b ws q.1)

  pub ended_free : (ls : List (List ℕ)) → p cr ≡ false → p lf ≡ false → Free p ls → any_of p (ended ls) ≡ false
  unfolding ended
  ended_free [] e d f = refl
  ended_free (w ∷ ls) e d f = any_append p w (cr ∷ lf ∷ ended ls) f.0 (ap₂ ◌||◌ e (ap₂ ◌||◌ d (ended_free ls e d f.1)))

  pub free_ended : (ls : List (List ℕ)) → any_of p (ended ls) ≡ false → Free p ls
  unfolding ended
  free_ended [] e = tt
  free_ended (w ∷ ls) e =
      let q = parts_free w (cr ∷ lf ∷ ended ls) e in
      (q.0, free_ended ls (or_right_false (p lf) (any_of p (ended ls)) (or_right_false (p cr) (any_of p (lf ∷ ended ls)) q.1)))
