-- How a text and its lines fit together: the first line and what stands behind it. Assumes nothing.
use mathlib.Core.Path.{◌≡◌, refl, sym, ap, ap₂, ◌∙◌}
use mathlib.Core.Bool.{true, false}
use mathlib.Core.Logic.{◌⊎◌, ⊎_elim, inl, inr}
use mathlib.Core.List.{List, [], ◌∷◌, ◌++◌}
use Prim.Native.Nat.{ℕ}
use native.Mathlib.Omega.{arith}
use lib.Dec.{eqb}
use borrow.Author.Tests.{eqb-true}
use Rattle.lemmas.specs.Lists.{any_of}
use Rattle.lemmas.proofs.Tests.{true_or_false, and_left, and_right, or_left_false, or_right_false}
use Rattle.format.specs.Cut.{cr, lf, line_end, onto, lines_of}
use Rattle.format.proofs.Joining.{end_here, end_later, no_end}

-- a text of some bytes has a line, and the first is blank or starts as the text does
pub first_line : (x : ℕ) (t : List ℕ)
    → (l : List ℕ) × (ls : List (List ℕ)) × ((lines_of (x ∷ t) ≡ [] ∷ ls) ⊎ (lines_of (x ∷ t) ≡ (x ∷ l) ∷ ls))
unfolding lines_of
first_line x [] = ([], [], inr refl)
first_line x (y ∷ t) =
    ⊎_elim
    (λ (e : line_end x y ≡ true). ([], lines_of t, inl (end_here x y t e)))
    (λ (e : line_end x y ≡ false). let q = started (lines_of (y ∷ t)) in (q.0, q.1, inr (end_later x y t e ∙ q.2)))
    (true_or_false (line_end x y))
  where
    started : (ls : List (List ℕ)) → (l : List ℕ) × (ms : List (List ℕ)) × (onto x ls ≡ (x ∷ l) ∷ ms)
    started [] = ([], [], refl)
    started (l ∷ ls) = (l, ls, refl)

pub no_line : (t : List ℕ) → lines_of t ≡ [] → t ≡ []
no_line [] e = refl
no_line (x ∷ t) e =
    let q = first_line x t in
    ⊎_elim
    (λ (h : lines_of (x ∷ t) ≡ [] ∷ q.1). absurd (let z : ◌≡◌ {A = ℕ} 0 1 = cc in omega arith))
    (λ (h : lines_of (x ∷ t) ≡ (x ∷ q.0) ∷ q.1). absurd (let z : ◌≡◌ {A = ℕ} 0 1 = cc in omega arith))
    q.2

-- the text is its first line, or its first line with the end and what the other lines are of
abbrev Apart : List ℕ → List ℕ → List (List ℕ) → Type 0
Apart t l ls = ((t ≡ l) × (ls ≡ [])) ⊎ ((rest : List ℕ) × (t ≡ l ++ cr ∷ lf ∷ rest) × (lines_of rest ≡ ls))

onto_apart : (x y : ℕ) (t l : List ℕ) (ms ls : List (List ℕ)) → (ms ≡ [] → ⊥) → onto x ms ≡ l ∷ ls
    → ((m : List ℕ) (rest : List (List ℕ)) → ms ≡ m ∷ rest → Apart (y ∷ t) m rest) → Apart (x ∷ y ∷ t) l ls
onto_apart x y t l [] ls n e ih = absurd (n refl)
onto_apart x y t l (m ∷ ms) ls n e ih =
    let first : x ∷ m ≡ l = cc in
    let later : ms ≡ ls = cc in
    ⊎_elim
    (λ (q : (y ∷ t ≡ m) × (ms ≡ [])). inl (ap (λ (r : List ℕ). x ∷ r) q.0 ∙ first, sym later ∙ q.1))
    (λ (q : (rest : List ℕ) × (y ∷ t ≡ m ++ cr ∷ lf ∷ rest) × (lines_of rest ≡ ms)).
    inr (q.0, ap (λ (r : List ℕ). x ∷ r) q.1 ∙ ap (λ (r : List ℕ). r ++ cr ∷ lf ∷ q.0) first, q.2 ∙ later))
    (ih m ms refl)

-- Law: a text with a first line is taken apart behind it.
pub lines_apart : (t l : List ℕ) (ls : List (List ℕ)) → lines_of t ≡ l ∷ ls → Apart t l ls
unfolding lines_of line_end
lines_apart [] l ls e = absurd (let z : ◌≡◌ {A = ℕ} 0 1 = cc in omega arith)
lines_apart (x ∷ []) l ls e = inl (cc, cc)
lines_apart (x ∷ y ∷ t) l ls e =
    let ih = lines_apart (y ∷ t) in
    ⊎_elim
    (λ (h : line_end x y ≡ true).
    let q : [] ∷ lines_of t ≡ l ∷ ls = sym (end_here x y t h) ∙ e in
    let blank : [] ≡ l = cc in
    let later : lines_of t ≡ ls = cc in
    inr (
      t,
      ap₂ (λ (u v : ℕ). u ∷ v ∷ t) (eqb-true x cr (and_left (eqb x cr) (eqb y lf) h)) (eqb-true y lf (and_right (eqb x cr) (eqb y lf) h))
          ∙ ap (λ (r : List ℕ). r ++ cr ∷ lf ∷ t) blank,
      later,
    ))
    (λ (h : line_end x y ≡ false).
    onto_apart x y t l (lines_of (y ∷ t)) ls (λ n. let z : y ∷ t ≡ [] = no_line (y ∷ t) n in absurd (let o : ◌≡◌ {A = ℕ} 0 1 = cc in omega arith)) (sym (end_later x y t h) ∙ e) ih)
    (true_or_false (line_end x y))

-- Law: a text of some bytes with no CR is one line.
pub one_line : (x : ℕ) (t : List ℕ) → any_of (eqb cr) (x ∷ t) ≡ false → lines_of (x ∷ t) ≡ (x ∷ t) ∷ []
unfolding lines_of
one_line x [] e = refl
one_line x (y ∷ t) e =
    end_later x y t (no_end x y (or_left_false (eqb cr x) (any_of (eqb cr) (y ∷ t)) e))
    ∙ ap (onto x) (one_line y t (or_right_false (eqb cr x) (any_of (eqb cr) (y ∷ t)) e))
