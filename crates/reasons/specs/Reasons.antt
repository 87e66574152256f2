-- The line that says in plain words why a file of waits is refused. Assumes nothing.
use Rattle.std.specs.Prelude.{cond, ◌&&◌, List, [], ◌∷◌, ◌++◌, ℕ, ◌-◌, leb, eqb, get_or}
use Prim.Native.String.{String}
use Rattle.nodes.specs.Words.{places}
use Rattle.waits.specs.declared.refusals.Refusal.{Refusal}
use Rattle.waits.specs.Numbers.{reason_number}
use Rattle.text.specs.Words.{word, decimal}
use Rattle.format.specs.Files.{headings}
use Rattle.format.specs.Files.Said.{Line, Refused, Graph}
use Rattle.faults.specs.declared.flaws.Flaw.{Flaw}
use Rattle.faults.specs.declared.flaws.Flaw.TheVariants.{Missing, Empty, NoDigit, PastBits, Spaces, Strange, NoPlace, Twice, Descends}
use Rattle.faults.specs.declared.Fault.{Fault}
use Rattle.faults.specs.declared.Fault.TheVariants.{EmptyFile, Mark, NoHeader, BareLf, Semicolons, Column, MoreFields, NotNext}
use Rattle.faults.specs.Faults.{fault_of}
use Rattle.report.specs.Report.{Input, input_of}
use Rattle.report.specs.Report.Input.{TooLong, Says}

-- no reason is longer
abbrev pub longest_reason : ℕ
longest_reason = 88

-- ---- a line that breaks a rule

-- a column, by the name that the header has for it; the last is set4
abbrev pub column_name : ℕ → List ℕ
column_name column = get_or headings column (word "set4")

-- what is wrong with a column; the nodes that a set has places for are those below `places`
unfoldable pub flaw_words : Flaw → List ℕ
flaw_words Missing = word " is missing"
flaw_words Empty = word " is empty"
flaw_words NoDigit = word " has a character that isn't a digit"
flaw_words PastBits = word " is past 64 bits"
flaw_words Spaces = word " has a space too many"
flaw_words Strange = word " has a character that is neither a digit nor a space"
flaw_words NoPlace = word " has a member over " ++ decimal (places - 1)
flaw_words Twice = word " has a member twice"
flaw_words Descends = word " isn't ascending"

abbrev pub of_line : ℕ → List ℕ → List ℕ
of_line line words = word "line " ++ decimal line ++ words

-- line k + 2 is that of node k
abbrev pub not_next_words : ℕ → List ℕ
not_next_words line = of_line line (word ": its node isn't ") ++ decimal (line - 2) ++ word ", the next one"

-- what is wrong with a line
unfoldable pub fault_words : (line : ℕ) → Fault → List ℕ
fault_words line EmptyFile = word "the file is empty; line 1 must be the header node,kind,threshold,set1,set2,set3,set4"
fault_words line Mark = of_line line (word " begins with a byte-order mark, which is no part of the header")
fault_words line NoHeader = of_line line (word " isn't the header node,kind,threshold,set1,set2,set3,set4")
fault_words line BareLf = of_line line (word " ends in LF where CR LF is wanted")
fault_words line Semicolons = of_line line (word ": its fields are separated by semicolons where commas are wanted")
fault_words line (Column column f) = of_line line (word ": ") ++ column_name column ++ flaw_words f
fault_words line MoreFields = of_line line (word ": it has more than seven fields")
fault_words line NotNext = not_next_words line

unfoldable pub line_reason : List ℕ → ℕ → List ℕ
line_reason bytes line = fault_words line (fault_of bytes line) ++ word "\n"

-- ---- a graph that is refused

-- the words that a table has for a number, or else the last words
abbrev pub words_in : List (ℕ × String) → (last : String) → ℕ → List ℕ
words_in [] last number = word last
words_in (e ∷ l) last number = cond (eqb number e.0) (word e.1) (words_in l last number)

abbrev pub number_table : List (ℕ × String)
number_table =
    (1, "there is no node, or there are more than 64")
    ∷ (2, "the kind isn't 0, 1 or 2")
    ∷ (3, "a set names something that is no node")
    ∷ (4, "the node waits on itself")
    ∷ (5, "the threshold isn't 1 to the size of set1 at kind 1, or isn't 0 at another kind")
    ∷ (6, "there is a set where the kind has none: any at kind 0, any but set1 at kind 1")
    ∷ (7, "kind 2 has no set, or one of its sets lies inside another")
    ∷ []

-- A graph is refused with 1 to 8, so the last words are those of 8.
unfoldable pub number_words : ℕ → List ℕ
number_words number = words_in number_table "there are more than 512 edges" number

-- 2 to 7 are of a row
unfoldable pub place_words : (number row : ℕ) → List ℕ
place_words number row = cond (leb 2 number && leb number 7) (word "row " ++ decimal row ++ word ": ") []

unfoldable pub graph_reason : Refusal → List ℕ
graph_reason r =
    let number = reason_number r.reason in
    place_words number r.row.0 ++ number_words number ++ word "\n"

-- ---- a file

-- what is said of a file's bytes, once it is known what they say: nothing of a graph that isn't refused
unfoldable pub reason_for : List ℕ → Input → List ℕ
reason_for bytes TooLong = word "the file has more than 65536 bytes\n"
reason_for bytes (Says (Line line)) = line_reason bytes line
reason_for bytes (Says (Refused r)) = graph_reason r
reason_for bytes (Says (Graph n rows)) = []

unfoldable pub reason_of : List ℕ → List ℕ
reason_of bytes = reason_for bytes (input_of bytes)
