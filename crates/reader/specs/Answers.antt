-- What the functions answer of a line and of a file. Assumes nothing.
use Rattle.std.specs.Prelude.{◌≡◌, cond, List, ℕ, ◌*◌, ltb, length, take, replicate, Option, Some, None, Result, Ok, Err}
use Rattle.std.proofs.Math.Option.{Option as Maybe, none, some}
use Rattle.std.proofs.lemmas.List.Edits.{sets}
use Rattle.nodes.specs.Words.{places}
use Rattle.waits.specs.declared.rows.Row.{Row}
use Rattle.waits.specs.declared.refusals.Refusal.{Refusal}
use Rattle.waits.specs.Rows.{row_size, flat}
use Rattle.waits.specs.Numbers.{reason_number, check_of}
use Rattle.format.specs.Files.{Meant, Said}
use Rattle.format.specs.Files.Meant.{Broken, Rows}
use Rattle.format.specs.Files.Said.{Line, Refused, Graph}
use Rattle.reader.specs.declared.files.Wrong.{Wrong}
use Rattle.reader.specs.declared.files.Wrong.TheVariants.{Line as Wrong-as-Line, Refused as Wrong-as-Refused}
use Rattle.reader.specs.declared.files.File.{File}
use Rattle.reader.specs.declared.files.Told.{Told}
use Rattle.waits.specs.declared.refusals.Reason.TheVariants.{WrongCount}

-- a line
unfoldable pub row_said : Maybe Row → Option Row
row_said none = None
row_said (some r) = Some r

-- the numbers of as many rows as a graph can have: 384
abbrev pub numbers : ℕ
numbers = places * row_size

-- all lines: the broken one, or how many rows there are; these are then stored, as far as there are places
unfoldable pub LinesSay : Meant → List ℕ → List ℕ → Result ℕ ℕ → Type 0
LinesSay m found left (Err line) = m ≡ Broken line
LinesSay m found left (Ok n) = (rs : List Row) × (m ≡ Rows rs) × (n ≡ length rs) × (left ≡ sets found 0 (flat rs))

-- the file: numbers in front of zeros if it is a graph, and else no number at all
abbrev pub zeros : List ℕ
zeros = replicate numbers 0

unfoldable pub no_graph : Wrong → Result File Wrong
no_graph w = Err w

unfoldable pub file_said : Said → Result File Wrong
file_said (Line line) = no_graph (Wrong-as-Line line)
file_said (Refused r) = no_graph (Wrong-as-Refused r)
file_said (Graph n rows) = Ok (record { nodes = n; rows = sets zeros 0 rows })

-- a graph of n rows, of which the numbers of those that a graph can have are stored
abbrev pub checked_as : ℕ → List ℕ → Result Unit Refusal → Result File Wrong
checked_as n stored (Err r) = no_graph (Wrong-as-Refused r)
checked_as n stored (Ok u) = Ok (record { nodes = n; rows = stored })

unfoldable pub graph_judged : ℕ → List ℕ → Result File Wrong
graph_judged n stored =
    cond (ltb places n)
    (no_graph (Wrong-as-Refused (record { reason = WrongCount; row = record { 0 = 0 } })))
    (checked_as n stored (check_of n (take (n * row_size) stored)))

-- the number by which each answer is known, with its line or row: 20 is the line's, a refused graph has its own, and one that isn't refused has none
abbrev pub told_as : Result Unit Wrong → Told
told_as (Ok u) = record { number = 0; place = 0 }
told_as (Err (Wrong-as-Line line)) = record { number = 20; place = line }
told_as (Err (Wrong-as-Refused r)) = record { number = reason_number r.reason; place = r.row.0 }
