-- A file by the grammar and a text cut into lines have the same records. Assumes nothing.
use mathlib.Core.Path.{◌≡◌, ap, ap₂, ◌∙◌}
use mathlib.Core.Bool.{false}
use mathlib.Core.Logic.{⊎_elim, inl, inr}
use mathlib.Core.List.{List, [], ◌∷◌, ◌++◌, map}
use Prim.Native.Nat.{ℕ}
use native.Mathlib.Omega.{arith}
use lib.Dec.{eqb}
use Rattle.lemmas.specs.Lists.{any_of}
use Rattle.format.specs.Cut.{cr, lf, pieces, lines_of}
use Rattle.format.specs.Grammar.{RecordSays, FileSays}
use Rattle.format.proofs.Joining.{lines_first}
use Rattle.format.proofs.Clean.{Clean, AllClean}
use Rattle.format.proofs.Cutting.{no_line, lines_apart, one_line}
use Rattle.format.proofs.Records.{values_of, record_values, line_record}

-- ---- from the grammar

-- a line with two values or more isn't empty
some_values : (l v u : List ℕ) (vs : List (List ℕ)) → values_of l ≡ v ∷ u ∷ vs → any_of (eqb cr) l ≡ false → lines_of l ≡ l ∷ []
unfolding pieces
some_values [] v u vs e f = absurd (let z : ◌≡◌ {A = ℕ} 0 1 = cc in omega arith)
some_values (x ∷ l) v u vs e f = one_line x l f

record_line : (l : List ℕ) (r : List (List ℕ)) → Clean r → RecordSays l r → (values_of l ≡ r) × (any_of (eqb cr) l ≡ false) × (lines_of l ≡ l ∷ [])
record_line l [] c s = absurd c
record_line l (v ∷ []) c s = absurd c
record_line l (v ∷ u ∷ vs) c s = let q = record_values l v (u ∷ vs) c s in (q.0, q.1, some_values l v u vs q.0 q.1)

-- Law: a file with such records has them as lines.
pub file_lines_lem : (bytes : List ℕ) (r : List (List ℕ)) (rs : List (List (List ℕ))) → AllClean (r ∷ rs) → FileSays bytes (r ∷ rs)
    → map values_of (lines_of bytes) ≡ r ∷ rs
unfolding lines_of
file_lines_lem bytes r [] c s =
    let l = s.0 in
    let q = record_line l r c.0 s.1 in
    let one : lines_of bytes ≡ l ∷ [] = ⊎_elim (λ (e : bytes ≡ l). ap lines_of e ∙ q.2) (λ (e : bytes ≡ l ++ cr ∷ lf ∷ []). ap lines_of e ∙ lines_first l [] q.1) s.2 in
    ap (map values_of) one ∙ ap (λ (x : List (List ℕ)). x ∷ []) q.0
file_lines_lem bytes r (t ∷ rs) c s =
    let l = s.0 in
    let rest = s.1 in
    let q = record_line l r c.0 s.3 in
    ap (map values_of) (ap lines_of s.2 ∙ lines_first l rest q.1)
    ∙ ap₂ (λ (x : List (List ℕ)) (xs : List (List (List ℕ))). x ∷ xs) q.0 (file_lines_lem rest t rs c.1 s.4)

-- ---- and back

-- Law: a text whose lines have such values is a file with them as its records.
pub lines_file : (bytes l : List ℕ) (ls : List (List ℕ)) → lines_of bytes ≡ l ∷ ls → AllClean (map values_of (l ∷ ls)) → FileSays bytes (map values_of (l ∷ ls))
lines_file bytes l [] e c = (
  l,
  line_record l c.0,
  ⊎_elim (λ (q : (bytes ≡ l) × (◌≡◌ {A = List (List ℕ)} [] [])). inl q.0)
      (λ (q : (rest : List ℕ) × (bytes ≡ l ++ cr ∷ lf ∷ rest) × (lines_of rest ≡ [])). inr (q.1 ∙ ap (λ (x : List ℕ). l ++ cr ∷ lf ∷ x) (no_line q.0 q.2)))
      (lines_apart bytes l [] e),
)
lines_file bytes l (m ∷ ls) e c =
    let ih : (rest : List ℕ) → lines_of rest ≡ m ∷ ls → FileSays rest (map values_of (m ∷ ls)) = λ rest h. lines_file rest m ls h c.1 in
    ⊎_elim (λ (q : (bytes ≡ l) × (m ∷ ls ≡ [])). absurd (let h = q.1 in let z : ◌≡◌ {A = ℕ} 0 1 = cc h in omega arith))
    (λ (q : (rest : List ℕ) × (bytes ≡ l ++ cr ∷ lf ∷ rest) × (lines_of rest ≡ m ∷ ls)). (l, q.0, q.1, line_record l c.0, ih q.0 q.2))
    (lines_apart bytes l (m ∷ ls) e)
