-- What a file of waits says: a row for each node under a header, or which line is no such thing, or why the graph is refused.
-- Assumes nothing.
use Rattle.std.specs.Prelude.{Bool, cond, ◌&&◌, List, [], ◌∷◌, ℕ, suc, ◌+◌, eqb, length, Result, Ok, Err}
use Rattle.std.proofs.Math.Option.{Option, none, some}
use Rattle.nodes.specs.Words.{as_set}
use Rattle.waits.specs.declared.rows.Row.{Row}
use Rattle.waits.specs.declared.refusals.Refusal.{Refusal}
use Rattle.waits.specs.Rows.{flat}
use Rattle.waits.specs.Numbers.{check_of}
use Rattle.text.specs.Words.{word}
use Rattle.format.specs.Cut.{comma, pieces, lines_of}
use Rattle.format.specs.Fields.{number_of, set_in, word_in, Fields, next, done}

-- the fields of a line stand between commas
abbrev pub fields : List ℕ → Fields
fields line = some (pieces comma line)

-- ---- the header

abbrev pub headings : List (List ℕ)
headings = word "node" ∷ word "kind" ∷ word "threshold" ∷ word "set1" ∷ word "set2" ∷ word "set3" ∷ word "set4" ∷ []

-- these words, one after the other
abbrev pub words : List (List ℕ) → Fields → Fields
words [] fs = fs
words (w ∷ ws) fs = words ws (next (word_in w) fs).rest

unfoldable pub is_header : List ℕ → Bool
is_header line = done (words headings (fields line))

-- ---- a row

-- The line of node k: its number, kind, threshold and four sets, and no field more.
unfoldable pub row_of : ℕ → List ℕ → Option Row
row_of k line =
    let node = next number_of (fields line) in
    let kind = next number_of node.rest in
    let threshold = next number_of kind.rest in
    let set1 = next set_in threshold.rest in
    let set2 = next set_in set1.rest in
    let set3 = next set_in set2.rest in
    let set4 = next set_in set3.rest in
    cond (done set4.rest && eqb node.value k)
    (some
    (record {
      kind = kind.value;
      threshold = threshold.value;
      first = as_set set1.value;
      second = as_set set2.value;
      third = as_set set3.value;
      fourth = as_set set4.value;
    }))
    none

-- ---- the file

-- the rows of a file, or the first line that breaks a rule
pub data Meant : Type 0 where
  Broken : ℕ → Meant
  Rows : List Row → Meant

-- a row, if it is one, and then the others
abbrev pub row_then : (line : ℕ) → Option Row → Meant → Meant
row_then line none m = Broken line
row_then line (some r) (Broken later) = Broken later
row_then line (some r) (Rows rs) = Rows (r ∷ rs)

-- the lines of the nodes from k on; since the header is line 1, node k is on line k + 2
unfoldable pub rows_from : ℕ → List (List ℕ) → Meant
rows_from k [] = Rows []
rows_from k (l ∷ ls) = row_then (k + 2) (row_of k l) (rows_from (suc k) ls)

abbrev pub under_header : List (List ℕ) → Meant
under_header [] = Broken 1
under_header (l ∷ ls) = cond (is_header l) (rows_from 0 ls) (Broken 1)

unfoldable pub meant_by : List ℕ → Meant
meant_by bytes = under_header (lines_of bytes)

-- ---- what a reader answers: number 20 and the line, or the graph's number and its row, or the graph
pub data Said : Type 0 where
  Line : ℕ → Said
  Refused : Refusal → Said
  Graph : (nodes : ℕ) → (rows : List ℕ) → Said

abbrev pub judged : (nodes : ℕ) → (rows : List ℕ) → Result Unit Refusal → Said
judged n rows (Err r) = Refused r
judged n rows (Ok tt) = Graph n rows

-- every line is judged before any number of the graph is given
abbrev pub said_of : Meant → Said
said_of (Broken line) = Line line
said_of (Rows rs) = judged (length rs) (flat rs) (check_of (length rs) (flat rs))

unfoldable pub read_of : List ℕ → Said
read_of bytes = said_of (meant_by bytes)
