-- When rows are refused: the numbers 1 to 8, each with the line that the paper's table has for it, and their order.
-- Assumes nothing.
use Rattle.std.specs.Prelude.{◌≡◌, Bool, true, false, cond, not, ◌&&◌, ◌||◌, ℕ, zero, suc, ◌*◌, ◌≤◌, ◌<◌, leb, ltb, eqb, length, Result, Ok, Err}
use mathlib.Core.List.{List, [], ◌∷◌, ◌++◌, Memᴰ}
use Rattle.lemmas.specs.Lists.{any_of}
use Rattle.nodes.specs.Sets.{has, below, inside, size}
use Rattle.nodes.specs.Words.{places, num}
use Rattle.waits.specs.declared.rows.Row.{Row}
use Rattle.waits.specs.declared.refusals.Refusal.{Refusal}
use Rattle.waits.specs.Waits.{edges}
use Rattle.waits.specs.Rows.{row_size, row_at, sets_of, later_of, out_of, lies_in, waits_of}
use Rattle.waits.specs.declared.refusals.Reason.{Reason}
use Rattle.waits.specs.declared.refusals.Reason.TheVariants.{WrongCount, StrangeKind, StrangeMember, WaitsOnItself, WrongThreshold, ExtraSet, BadSets, ManyEdges, NoNode, CannotOpen, NoStep, FullRoom, StrangeState, StrangeEntry, ShortRoom, NotAscending}

-- the most edges that a graph may have
abbrev pub most_edges : ℕ
most_edges = 512

-- there is no node, or there are more than a set has places for
unfoldable pub strange_count : ℕ → Bool
strange_count n = eqb n 0 || ltb places n

-- 1: such a count, or not six numbers to each node
unfoldable pub wrong_count : ℕ → ℕ → Bool
wrong_count n numbers = strange_count n || not (eqb numbers (n * row_size))

-- 2: there is no such kind
unfoldable pub strange_kind : Row → Bool
strange_kind r = ltb 2 r.kind

-- 3: a set names something that is no node. OUT has the members of every set.
unfoldable pub strange_member : ℕ → Row → Bool
strange_member n r = not (inside (out_of r) (below n))

-- 4: the node waits on itself
unfoldable pub waits_on_itself : ℕ → Row → Bool
waits_on_itself k r = has (out_of r) k

-- 5: the threshold isn't what the kind asks: 1 to the size of the first set for kind 1, 0 for the others
unfoldable pub wrong_threshold : Row → Bool
wrong_threshold r =
    cond (eqb r.kind 1)
    (not (leb 1 r.threshold && leb r.threshold (size (num r.first))))
    (not (eqb r.threshold 0))

-- 6: a set where the kind has none: any at kind 0, any but the first at kind 1. A union is empty only if each of its sets is.
unfoldable pub extra_set : Row → Bool
extra_set r =
    cond (eqb r.kind 0) (not (eqb (out_of r) 0))
    (cond (eqb r.kind 1) (not (eqb (later_of r) 0))
    false)

-- one nonempty set of the list lies inside another
abbrev pub nested : List ℕ → Bool
nested [] = false
nested (s ∷ l) = any_of (λ t. lies_in s t || lies_in t s) l || nested l

-- 7: kind 2 has nothing to wait for, or a nonempty set that lies inside another
unfoldable pub bad_sets : Row → Bool
bad_sets r = eqb r.kind 2 && (eqb (out_of r) 0 || nested (sets_of r))

-- 8: there are too many edges
unfoldable pub many_edges : ℕ → List ℕ → Bool
many_edges n rows = ltb most_edges (edges (waits_of n rows))

-- the number of each line in the paper's table, by which it is known outside
abbrev pub reason_number : Reason → ℕ
reason_number WrongCount = 1
reason_number StrangeKind = 2
reason_number StrangeMember = 3
reason_number WaitsOnItself = 4
reason_number WrongThreshold = 5
reason_number ExtraSet = 6
reason_number BadSets = 7
reason_number ManyEdges = 8
reason_number NoNode = 9
reason_number CannotOpen = 10
reason_number NoStep = 11
reason_number FullRoom = 12
reason_number StrangeState = 13
reason_number StrangeEntry = 14
reason_number ShortRoom = 15
reason_number NotAscending = 18

-- A line of the table: its refusal, and whether it says that this one is given.
pub record Line : Type 0 where
  pub gives : Refusal
  pub says : Bool

abbrev pub line : Reason → ℕ → Bool → Line
line reason k b = record { gives = record { reason = reason; row = record { 0 = k } }; says = b }

-- 2 to 7 for the row of node k, in order
abbrev pub row_lines : ℕ → ℕ → Row → List Line
row_lines n k r =
    line StrangeKind k (strange_kind r)
    ∷ line StrangeMember k (strange_member n r)
    ∷ line WaitsOnItself k (waits_on_itself k r)
    ∷ line WrongThreshold k (wrong_threshold r)
    ∷ line ExtraSet k (extra_set r)
    ∷ line BadSets k (bad_sets r)
    ∷ []

-- those of the rows from k on, ascending, of which there are m
abbrev pub rows_lines : ℕ → List ℕ → ℕ → ℕ → List Line
rows_lines n rows k zero = []
rows_lines n rows k (suc m) = row_lines n k (row_at rows k) ++ rows_lines n rows (suc k) m

-- 1; then the rows; then 8. A number that is not of a row gives row 0.
abbrev pub graph_lines : ℕ → List ℕ → List Line
graph_lines n rows = line WrongCount 0 (wrong_count n (length rows)) ∷ rows_lines n rows 0 n ++ line ManyEdges 0 (many_edges n rows) ∷ []

-- the first line that says so; accepted if none does
abbrev pub first_said : List Line → Result Unit Refusal
first_said [] = Ok tt
first_said (l ∷ ls) = cond l.says (Err l.gives) (first_said ls)

-- what the check of one row answers, and that of a graph
unfoldable pub check_row_of : ℕ → ℕ → Row → Result Unit Refusal
check_row_of n k r = first_said (row_lines n k r)

unfoldable pub check_of : ℕ → List ℕ → Result Unit Refusal
check_of n rows = first_said (graph_lines n rows)

-- no line says so
abbrev pub Silent : List Line → Type 0
Silent ls = (l : Line) → Memᴰ l ls → l.says ≡ false

-- some line gives r: it says so, and no earlier one does
pub record Gives (ls : List Line) (r : Refusal) : Type 0 where
  pub earlier : List Line
  pub this : Line
  pub rest : List Line
  pub order : ls ≡ earlier ++ this ∷ rest
  pub refusal : this.gives ≡ r
  pub speaks : this.says ≡ true
  pub silent : Silent earlier

-- a refusal whose number and row one byte each can hold, as those of the table can
abbrev pub Small : Refusal → Type 0
Small r = (1 ≤ reason_number r.reason) × (reason_number r.reason < 256) × (r.row.0 < 256)
