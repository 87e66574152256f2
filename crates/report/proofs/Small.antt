-- The line, number and row of a refusal are small, and so is a graph. Assumes nothing.
use mathlib.Core.Path.{◌≡◌, refl}
use mathlib.Core.List.{List, [], ◌∷◌}
use mathlib.Core.Option.{Option, none, some}
use Prim.Native.Nat.{ℕ, suc, ◌+◌, ◌≤◌, ◌<◌}
use native.Mathlib.Omega.{arith}
use lib.ListN.{length}
use Rattle.lemmas.proofs.Cases.{both_branches}
use Rattle.nodes.specs.Words.{places}
use Rattle.std.specs.Prelude.{Result, Ok, Err}
use Rattle.waits.specs.declared.rows.Row.{Row}
use Rattle.waits.specs.declared.refusals.Refusal.{Refusal}
use Rattle.waits.specs.Rows.{flat}
use Rattle.waits.specs.Numbers.{reason_number, check_of}
use Rattle.waits.proofs.Table.{accepted_shaped}
use Rattle.waits.proofs.Small.{check_small}
use Rattle.format.specs.Cut.{line_end, onto, lines_of}
use Rattle.format.specs.Files.{is_header, row_of, Meant, row_then, rows_from, under_header, meant_by, Said, judged, said_of, read_of}
use Rattle.format.specs.Files.Meant.{Broken, Rows}
use Rattle.format.specs.Files.Said.{Line, Refused, Graph}
use Rattle.report.specs.Report.{longest}

-- ---- a file has no more lines than bytes, and a line that breaks a rule is one of them, or the header that is not there
onto_length : (x : ℕ) (ls : List (List ℕ)) (m : ℕ) → length ls ≤ suc m → length (onto x ls) ≤ suc m
onto_length x [] m h = omega arith
onto_length x (l ∷ ls) m h = h

lines_length : (s : List ℕ) → length (lines_of s) ≤ length s
unfolding lines_of
lines_length [] = omega arith
lines_length (x ∷ []) = omega arith
lines_length (x ∷ y ∷ l) =
    let i = lines_length l in
    let j = onto_length x (lines_of (y ∷ l)) (length l) (lines_length (y ∷ l)) in
    both_branches (λ (ls : List (List ℕ)). length ls ≤ suc (suc (length l))) (line_end x y) {x = [] ∷ lines_of l} {y = onto x (lines_of (y ∷ l))} (omega arith) (omega arith)

abbrev Within : ℕ → Meant → Type 0
Within m (Broken k) = k ≤ m
Within m (Rows rs) = Unit {0}

row_within : (m k : ℕ) (r : Option Row) (rest : Meant) → k ≤ m → Within m rest → Within m (row_then k r rest)
row_within m k none rest h w = h
row_within m k (some r) (Broken later) h w = w
row_within m k (some r) (Rows rs) h w = tt

rows_within : (m k : ℕ) (ls : List (List ℕ)) → k + length ls < m → Within m (rows_from k ls)
unfolding rows_from
rows_within m k [] h = tt
rows_within m k (l ∷ ls) h = row_within m (k + 2) (row_of k l) (rows_from (suc k) ls) (omega arith) (rows_within m (suc k) ls (omega arith))

under_within : (m : ℕ) (ls : List (List ℕ)) → length ls < m → Within m (under_header ls)
under_within m [] h = omega arith
under_within m (l ∷ ls) h = both_branches (Within m) (is_header l) {x = rows_from 0 ls} {y = Broken 1} (rows_within m 0 ls (omega arith)) (omega arith)

-- ---- what a file says
abbrev pub SmallSaid : Said → Type 0
SmallSaid (Line k) = k < 100000
SmallSaid (Refused r) = (reason_number r.reason < 100000) × (r.row.0 < 100000)
SmallSaid (Graph n rows) = n ≤ places

judged_small : (n : ℕ) (rows : List ℕ) (c : Result Unit Refusal) → check_of n rows ≡ c → SmallSaid (judged n rows c)
judged_small n rows (Err r) e = let s = check_small n rows r e in (omega (arith, s.1), omega (arith, s.2))
judged_small n rows (Ok tt) e = (accepted_shaped n rows e).0

said_small : (m : Meant) → Within 99999 m → SmallSaid (said_of m)
said_small (Broken k) w = omega arith
said_small (Rows rs) w = judged_small (length rs) (flat rs) _ refl

pub read_small : (bytes : List ℕ) → length bytes ≤ longest → SmallSaid (read_of bytes)
unfolding read_of meant_by
read_small bytes h = said_small (meant_by bytes) (under_within 99999 (lines_of bytes) (omega (arith, lines_length bytes)))
