-- Where a mark and a line stand in a file. Assumes nothing.
use mathlib.Core.Path.{◌≡◌, refl, sym, ap, ap₂, ◌∙◌}
use mathlib.Core.Bool.{true, false, ◌&&◌}
use mathlib.Core.List.{List, [], ◌∷◌}
use Prim.Native.Nat.{ℕ, suc, ◌+◌, ◌-◌, ◌≤◌, ◌<◌}
use native.Mathlib.Omega.{arith}
use lib.Dec.{eqb}
use lib.ListN.{length, get_or, take, drop}
use borrow.Author.Tests.{eqb-true, eq-eqb, ne_eqb}
use Rattle.std.specs.Cmp.Lexicographic.{pointwise}
use Rattle.lemmas.proofs.Tests.{same_test}
use Rattle.format.specs.Cut.{lines_of}
use Rattle.format.specs.Fields.{same}
use Rattle.fields.specs.Ends.{up_to_end}
use Rattle.fields.proofs.Finding.{lines_next}
use Rattle.fields.proofs.Spelling.{same_pointwise}
use Rattle.faults.specs.Faults.{mark}

turned : (a b : ℕ) → eqb a b ≡ eqb b a
turned a b = same_test (eqb a b) (eqb b a) (λ e. eq-eqb b a (sym (eqb-true a b e))) (λ e. eq-eqb a b (sym (eqb-true b a e)))

-- ---- the mark at the start
same_turned : (a b : List ℕ) → same a b ≡ same b a
unfolding same
same_turned [] [] = refl
same_turned [] (y ∷ b) = refl
same_turned (x ∷ a) [] = refl
same_turned (x ∷ a) (y ∷ b) = ap₂ ◌&&◌ (turned x y) (same_turned a b)

pub marked_same : (file : List ℕ) → pointwise eqb mark (take 3 file) ≡ same (take 3 file) mark
marked_same file = same_pointwise mark (take 3 file) ∙ same_turned mark (take 3 file)

-- ---- a line
no_line : (n : ℕ) → [] ≡ get_or (lines_of []) n []
unfolding lines_of
no_line n = refl

line_first : (s : List ℕ) → take (up_to_end s) s ≡ get_or (lines_of s) 0 []
unfolding lines_of up_to_end
line_first [] = refl
line_first (x ∷ l) = sym (ap (λ (ls : List (List ℕ)). get_or ls 0 []) (lines_next (x ∷ l) (ne_eqb _ 0 (omega arith))))

line_on : (s : List ℕ) → eqb (length s) 0 ≡ false → (n : ℕ) → get_or (lines_of (drop (up_to_end s + 2) s)) n [] ≡ get_or (lines_of s) (suc n) []
line_on s h n = sym (ap (λ (ls : List (List ℕ)). get_or ls (suc n) []) (lines_next s h))

-- as a walk comes to it: the line that stands so many ahead in the rest is the one that is looked for
abbrev pub Ahead : (file : List ℕ) (index : ℕ) (rest : List ℕ) (k : ℕ) → Type 0
Ahead file index rest k = get_or (lines_of rest) (index - k) [] ≡ get_or (lines_of file) index []

pub ahead_start : (file : List ℕ) (index : ℕ) → Ahead file index file 0
ahead_start file index = ap (λ (n : ℕ). get_or (lines_of file) n []) (let q : index - 0 ≡ index = omega arith in q)

module _ (file : List ℕ) (index : ℕ) (rest : List ℕ) (k : ℕ) (s : Ahead file index rest k) where
  pub ahead_here : index ≤ k → take (up_to_end rest) rest ≡ get_or (lines_of file) index []
  ahead_here h = line_first rest ∙ ap (λ (n : ℕ). get_or (lines_of rest) n []) (let q : 0 ≡ index - k = omega arith in q) ∙ s

  pub ahead_next : k < index → eqb (length rest) 0 ≡ false → Ahead file index (drop (up_to_end rest + 2) rest) (k + 1)
  ahead_next h i =
      line_on rest i (index - (k + 1)) ∙ ap (λ (n : ℕ). get_or (lines_of rest) n []) (let q : suc (index - (k + 1)) ≡ index - k = omega arith in q) ∙ s

  pub ahead_none : eqb (length rest) 0 ≡ true → rest ≡ get_or (lines_of file) index []
  ahead_none e = ended rest (eqb-true _ _ e) ∙ s
    where
      ended : (l : List ℕ) → length l ≡ 0 → l ≡ get_or (lines_of l) (index - k) []
      ended [] e = no_line (index - k)
      ended (x ∷ l) e = absurd (omega arith)
