-- A file of waits is accepted exactly if it is one by the grammar. Assumes nothing.
use mathlib.Core.Path.{◌≡◌, refl, sym, ap, ap₂, ◌∙◌, subst}
use mathlib.Core.Bool.{Bool, true, false, cond}
use mathlib.Core.List.{List, [], ◌∷◌, map}
use mathlib.Core.Option.{some}
use Prim.Native.Nat.{ℕ, suc, ◌+◌}
use native.Mathlib.Omega.{arith}
use Rattle.lemmas.proofs.Cases.{at_true}
use Rattle.waits.specs.declared.rows.Row.{Row}
use Rattle.format.specs.Cut.{lines_of}
use Rattle.format.specs.Files.{headings, is_header, row_of, row_then, rows_from, under_header, meant_by}
use Rattle.format.specs.Files.Meant.{Broken, Rows}
use Rattle.format.specs.Grammar.{FileSays, RowsSay, IsFile, ByGrammar}
use Rattle.format.proofs.Back.{row_then_lem}
use Rattle.format.proofs.Clean.{headings_clean, rows_clean}
use Rattle.format.proofs.Records.{values_of}
use Rattle.format.proofs.Filing.{file_lines_lem, lines_file}
use Rattle.format.proofs.Values.{header_values, values_header, row_values_lem, values_row}

-- ---- the rows
rows_values : (k : ℕ) (ls : List (List ℕ)) (rs : List Row) → rows_from k ls ≡ Rows rs → RowsSay k (map values_of ls) rs
unfolding rows_from
rows_values k [] [] e = tt
rows_values k [] (r ∷ rs) e = absurd (let z : ◌≡◌ {A = ℕ} 0 1 = cc in omega arith)
rows_values k (l ∷ ls) [] e =
    let q = row_then_lem (k + 2) (row_of k l) (rows_from (suc k) ls) [] e in
    absurd (let h = q.4 in let z : ◌≡◌ {A = ℕ} 0 1 = cc h in omega arith)
rows_values k (l ∷ ls) (r ∷ rs) e =
    let q = row_then_lem (k + 2) (row_of k l) (rows_from (suc k) ls) (r ∷ rs) e in
    let h = q.4 in
    let first : q.0 ≡ r = cc h in
    let later : q.1 ≡ rs = cc h in
    (row_values_lem k l r (q.2 ∙ ap some first), rows_values (suc k) ls rs (q.3 ∙ ap Rows later))

values_rows : (k : ℕ) (ls : List (List ℕ)) (rs : List Row) → RowsSay k (map values_of ls) rs → rows_from k ls ≡ Rows rs
unfolding rows_from
values_rows k [] [] s = refl
values_rows k [] (r ∷ rs) s = absurd s
values_rows k (l ∷ ls) [] s = absurd s
values_rows k (l ∷ ls) (r ∷ rs) s = ap₂ (row_then (k + 2)) (values_row k l r s.0) (values_rows (suc k) ls rs s.1)

-- ---- the lines
lines_values : (ls : List (List ℕ)) (rs : List Row) → under_header ls ≡ Rows rs
    → (l : List ℕ) × (rest : List (List ℕ)) × (ls ≡ l ∷ rest) × (values_of l ≡ headings) × RowsSay 0 (map values_of rest) rs
lines_values [] rs e = absurd (let z : ◌≡◌ {A = ℕ} 0 1 = cc in omega arith)
lines_values (l ∷ ls) rs e = go (is_header l) refl e
  where
    go : (t : Bool) → is_header l ≡ t → cond t (rows_from 0 ls) (Broken 1) ≡ Rows rs
        → (m : List ℕ) × (rest : List (List ℕ)) × (l ∷ ls ≡ m ∷ rest) × (values_of m ≡ headings) × RowsSay 0 (map values_of rest) rs
    go true h e = (l, ls, refl, header_values l h, rows_values 0 ls rs e)
    go false h e = absurd (let z : ◌≡◌ {A = ℕ} 0 1 = cc in omega arith)

values_lines : (ls : List (List ℕ)) (records : List (List (List ℕ))) (rs : List Row) → map values_of ls ≡ headings ∷ records → RowsSay 0 records rs → under_header ls ≡ Rows rs
values_lines [] records rs e s = absurd (let z : ◌≡◌ {A = ℕ} 0 1 = cc in omega arith)
values_lines (l ∷ ls) records rs e s =
    let first : values_of l ≡ headings = cc in
    let later : records ≡ map values_of ls = cc in
    sym (at_true (Broken 1) (values_header l first) (sym (values_rows 0 ls rs (rw later at s))))

-- ---- the file
meant_file : (bytes : List ℕ) (rs : List Row) → meant_by bytes ≡ Rows rs → IsFile bytes rs
unfolding meant_by
meant_file bytes rs e =
    let q = lines_values (lines_of bytes) rs e in
    let later = map values_of q.1 in
    let first = q.3 in
    let clean = rows_clean 0 later rs q.4 in
    (later, subst (λ (r : List (List ℕ)). FileSays bytes (r ∷ later)) first (lines_file bytes q.0 q.1 q.2 (rw first headings_clean, clean)), q.4)

file_meant : (bytes : List ℕ) (rs : List Row) → IsFile bytes rs → meant_by bytes ≡ Rows rs
unfolding meant_by
file_meant bytes rs f =
    values_lines (lines_of bytes) f.0 rs (file_lines_lem bytes headings f.0 (headings_clean, rows_clean 0 f.0 rs f.2) f.1) f.2

-- Theorem: a file is accepted, with these rows, exactly if it is one by the grammar.
pub by_grammar : ByGrammar
by_grammar bytes rs = (meant_file bytes rs, file_meant bytes rs)
