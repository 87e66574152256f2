-- What a file of waits is answered with: the deadlocked nodes of the graph that it says, or the refusal. Assumes nothing.
use Rattle.std.specs.Prelude.{◌≡◌, cond, ◌↔◌, ℕ, ◌*◌, ◌<◌, ltb, length, Err}
use mathlib.Core.List.{List, [], ◌∷◌, ◌++◌, Memᴰ}
use Rattle.lemmas.specs.Lists.{Ascending}
use Rattle.nodes.specs.Words.{places}
use Rattle.waits.specs.Deadlocked.{Deadlocked}
use Rattle.waits.specs.Rows.{waits_of}
use Rattle.waits.specs.Numbers.{check_of}
use Rattle.text.specs.Words.{word, decimal}
use Rattle.text.specs.declared.Text.{Text as Lent}
use Rattle.text.specs.Text.{text, write, Wrote}
use Rattle.lines.specs.Lines.{refused_line}
use Rattle.format.specs.Files.{Said, judged, read_of}
use Rattle.format.specs.Files.Said.{Line, Refused, Graph}
use Rattle.reader.specs.declared.files.Wrong.{Wrong}
use Rattle.reader.specs.declared.files.Wrong.TheVariants.{Line as Wrong-as-Line, Refused as Wrong-as-Refused}
use Rattle.reader.specs.Answers.{told_as}

-- a longer file is not looked into
abbrev pub longest : ℕ
longest = 65536

pub data Input : Type 0 where
  TooLong : Input
  Says : Said → Input

unfoldable pub input_of : List ℕ → Input
input_of bytes = cond (ltb longest (length bytes)) TooLong (Says (read_of bytes))

-- the deadlocked nodes of a graph, ascending
pub record Stuck (n : ℕ) (rows : List ℕ) (l : List ℕ) : Type 0 where
  pub ascends : Ascending l
  pub members : (k : ℕ) → Memᴰ k l ↔ ((k < n) × Deadlocked (waits_of n rows) k)

-- one decimal a line
unfoldable pub node_lines : List ℕ → List ℕ
node_lines [] = []
node_lines (k ∷ l) = decimal k ++ word "\n" ++ node_lines l

-- a refusal gives its number and its line or row
abbrev pub refusal_line : Wrong → List ℕ
refusal_line w = refused_line (told_as (Err w)).number (told_as (Err w)).place

-- 21 is of no line or row, and gives 0
abbrev pub long_line : List ℕ
long_line = refused_line 21 0

-- the text that answers an input
unfoldable pub Answers : Input → List ℕ → Type 0
Answers TooLong t = t ≡ long_line
Answers (Says (Line line)) t = t ≡ refusal_line (Wrong-as-Line line)
Answers (Says (Refused r)) t = t ≡ refusal_line (Wrong-as-Refused r)
Answers (Says (Graph n rows)) t = (l : List ℕ) × Stuck n rows l × (t ≡ node_lines l)

-- no answer is longer: three bytes for each of as many nodes as a set has places for; a refusal has 20 at most
abbrev pub longest_answer : ℕ
longest_answer = 3 * places

-- the input that a file of these rows is
abbrev pub input_is : ℕ → List ℕ → Input
input_is n rows = Says (judged n rows (check_of n rows))

-- of lent bytes as found and as left, and where the text in them ends: they have a text that answers an input, clipped at their end
pub record Answered (i : Input) (found left : List ℕ) (end : ℕ) : Type 0 where
  pub answer : List ℕ
  pub answers : Answers i answer
  pub written : text left end ≡ write (text found 0) answer

-- of the code's struct before and after: a text that answers an input is written
pub record Gave (i : Input) (before after : Lent) : Type 0 where
  pub answer : List ℕ
  pub answers : Answers i answer
  pub wrote : Wrote before after answer
