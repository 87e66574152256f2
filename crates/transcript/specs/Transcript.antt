-- A script in, a text out: its steps are taken on a fresh bench, and the text says what came of them. Assumes nothing.
use Rattle.std.specs.Prelude.{◌≡◌, List, [], ◌∷◌, ◌++◌, ℕ, suc, ◌*◌, ◌≤◌, length, take, drop, replicate, Result, Ok, Err}
use Rattle.records.specs.declared.messages.Message.{Message}
use Rattle.waits.specs.declared.refusals.Refusal.{Refusal}
use Rattle.waits.specs.Numbers.{reason_number}
use Rattle.lent.specs.Coded.{message_of}
use Rattle.bench.specs.declared.calls.Ran.{Ran}
use Rattle.bench.specs.Bench.{fresh}
use Rattle.bench.specs.Runs.{Run, run_of}
use Rattle.lines.specs.Lines.{answer_lines, message_line, refused_line, no_script_line}
use Rattle.script.specs.declared.script.Shape.{Shape}
use Rattle.script.specs.Script.{most, Script, Meant, meant_by}
use Rattle.script.specs.Script.Meant.{NoScript, IsScript}

abbrev pub zeros : ℕ → List ℕ
zeros n = replicate n 0

-- a line for a message, and for each of those sent, numbered from k
abbrev pub line_of : ℕ → Message → List ℕ
line_of k m = message_line k m.kind m.from.0 m.to.0 m.round.0

unfoldable pub message_lines : ℕ → List ℕ → List ℕ
message_lines k [] = []
message_lines k (x ∷ l) = line_of k (message_of x) ++ message_lines (suc k) l

-- a line for each answer and then one for each message, or the one line of a list that is refused as a whole
unfoldable pub told_of : Result Unit Refusal → List ℕ → List ℕ → List ℕ
told_of (Err r) answers sent = refused_line (reason_number r.reason) 0
told_of (Ok tt) answers sent = answer_lines answers ++ message_lines 0 sent

abbrev pub told : Run → List ℕ
told r = told_of r.checked r.answers (take r.bench.sent r.bench.messages)

-- a script's steps, each with an answer place
unfoldable pub played : Script → List ℕ
played s = told (run_of s.nodes s.rows (fresh s.nodes (zeros s.room)) s.steps (zeros (length s.steps)))

abbrev pub answered_by : Meant → List ℕ
answered_by NoScript = no_script_line
answered_by (IsScript s) = played s

-- the text that answers the bytes of a script
unfoldable pub transcript_of : List ℕ → List ℕ
transcript_of bytes = answered_by (meant_by bytes)

-- no text is longer: a line of at most 28 bytes for each step, and one of at most 39 for each message, of which there are at most 4,096
abbrev pub longest_text : ℕ
longest_text = 48 * most

-- ---- what the functions have of it

-- of what came of steps on a fresh bench, with the lists of messages and answers as left: the right text, and no message past the list
pub record BeginSays (n : ℕ) (rows : List ℕ) (room : ℕ) (steps : List ℕ) (r : Ran) (messages answers : List ℕ) : Type 0 where
  pub text : told_of r.checked (take (length steps) answers) (take r.sent messages)
      ≡ told (run_of n rows (fresh n (zeros room)) steps (zeros (length steps)))
  pub listed : r.sent ≤ length messages

-- the script whose numbers and steps stand in lists, of the shape that the parser found
abbrev pub script_at : List ℕ → List ℕ → Shape → Script
script_at numbers steps h = record {
  nodes = h.nodes;
  rows = take h.rows (drop 2 numbers);
  room = h.room;
  steps = take h.steps steps;
}
