-- What the writer of a file answers, and how it leaves the lent bytes. Assumes nothing.
use Rattle.std.specs.Prelude.{◌≡◌, Bool, List, [], ◌∷◌, ◌++◌, ℕ, ◌+◌, ◌*◌, ltb, length, drop, Result, Ok, Err}
use Rattle.nodes.specs.Words.{places}
use Rattle.waits.specs.declared.refusals.Refusal.{Refusal}
use Rattle.waits.specs.Numbers.{most_edges, Line, line, graph_lines, first_said}
use Rattle.format.specs.Written.{file_of}
use Rattle.waits.specs.declared.refusals.Reason.TheVariants.{ShortRoom}

-- 15: fewer bytes are lent than the file has
unfoldable pub short_room : ℕ → List ℕ → ℕ → Bool
short_room n rows room = ltb room (length (file_of n rows))

-- the graph's own numbers; then 15, which is not of a row
abbrev pub file_lines : ℕ → List ℕ → ℕ → List Line
file_lines n rows room = graph_lines n rows ++ line ShortRoom 0 (short_room n rows room) ∷ []

-- what the check answers with so many lent bytes
unfoldable pub check_file_of : ℕ → List ℕ → ℕ → Result Unit Refusal
check_file_of n rows room = first_said (file_lines n rows room)

-- the refusal, or how many bytes the file has
abbrev pub answer : Result Unit Refusal → List ℕ → Result ℕ Refusal
answer (Err r) file = Err r
answer (Ok tt) file = Ok (length file)

-- on a refusal nothing is written; else the file stands in front, and the bytes after it stay
abbrev pub leave : Result Unit Refusal → List ℕ → List ℕ → List ℕ
leave (Err r) file found = found
leave (Ok tt) file found = file ++ drop (length file) found

-- the answer with so many lent bytes, and these as left
unfoldable pub written_of : ℕ → List ℕ → ℕ → Result ℕ Refusal
written_of n rows room = answer (check_file_of n rows room) (file_of n rows)

unfoldable pub left_of : ℕ → List ℕ → List ℕ → List ℕ
left_of n rows found = leave (check_file_of n rows (length found)) (file_of n rows) found

-- of an answer, with the lent bytes as found and as left
abbrev pub WrittenSays : ℕ → List ℕ → List ℕ → List ℕ → Result ℕ Refusal → Type 0
WrittenSays n rows found left r = (r ≡ written_of n rows (length found)) × (left ≡ left_of n rows found)

-- No file of an accepted graph is longer. The header has 41 bytes with its end. A row has at most 14 beside its sets: three numbers of
-- two digits, six commas, and its end. An edge is a member of at most four sets, and takes two digits and a space in each.
abbrev pub longest_file : ℕ
longest_file = 41 + 14 * places + 12 * most_edges
