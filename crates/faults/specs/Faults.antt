-- What is wrong with a line of a file of waits that is refused, the first thing that is. Assumes nothing.
use Rattle.std.specs.Prelude.{Bool, cond, not, ◌&&◌, List, [], ◌∷◌, ℕ, suc, ◌-◌, ltb, eqb, length, get_or, take, Result, Ok, Err}
use Rattle.lemmas.specs.Lists.{any_of}
use Rattle.format.specs.Cut.{comma, lf, pieces, lines_of}
use Rattle.format.specs.Fields.{bare, same}
use Rattle.faults.specs.declared.flaws.Flaw.{Flaw}
use Rattle.faults.specs.declared.flaws.Flaw.TheVariants.{Missing}
use Rattle.faults.specs.declared.Fault.{Fault}
use Rattle.faults.specs.declared.Fault.TheVariants.{EmptyFile, Mark, NoHeader, BareLf, Semicolons, Column, MoreFields, NotNext}
use Rattle.faults.specs.Flaws.{number_flaw, set_flaw}

-- ---- any line
abbrev pub semicolon : ℕ
semicolon = 59

abbrev pub has : ℕ → List ℕ → Bool
has b l = any_of (eqb b) l

-- what a line may have wrong whatever it ought to say: an LF with no CR before it, or semicolons for commas; else its own fault
unfoldable pub line_fault : List ℕ → (own : Fault) → Fault
line_fault line own = cond (has lf line) BareLf (cond (has semicolon line && not (has comma line)) Semicolons own)

-- ---- line 1, which is no header

-- the byte-order mark of UTF-8
abbrev pub mark : List ℕ
mark = 239 ∷ 187 ∷ 191 ∷ []

unfoldable pub header_fault : List ℕ → Fault
header_fault file =
    cond (eqb (length file) 0) EmptyFile
    (cond (same (take 3 file) mark) Mark
    (line_fault (get_or (lines_of file) 0 []) NoHeader))

-- ---- another line, which is no row

abbrev pub columns : ℕ
columns = 7

-- the first three columns are numbers, and then come sets
unfoldable pub field_flaw : (column : ℕ) → List ℕ → Result Unit Flaw
field_flaw column w = cond (ltb column 3) (number_flaw (bare w)) (set_flaw (bare w))

abbrev pub column_then : ℕ → Result Unit Flaw → Fault → Fault
column_then column (Ok u) later = later
column_then column (Err f) later = Column column f

-- the fields from a column on; if all columns are there and fine, and no field more, its node isn't the next
unfoldable pub fields_fault : (column : ℕ) → List (List ℕ) → Fault
fields_fault column [] = cond (ltb column columns) (Column column Missing) NotNext
fields_fault column (w ∷ ws) = cond (ltb column columns) (column_then column (field_flaw column w) (fields_fault (suc column) ws)) MoreFields

unfoldable pub row_fault : List ℕ → Fault
row_fault line = line_fault line (fields_fault 0 (pieces comma line))

-- ---- a line of a file: line 1 is the header's, and there is no line 0
unfoldable pub fault_of : List ℕ → (line : ℕ) → Fault
fault_of file line = cond (ltb line 2) (header_fault file) (row_fault (get_or (lines_of file) (line - 1) []))
