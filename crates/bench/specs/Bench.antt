-- The state of a bench, as it stands in lent lists of numbers. Assumes nothing.
use Rattle.std.specs.Prelude.{List, ℕ, ◌*◌, min, length, replicate, Result}
use Rattle.waits.specs.declared.refusals.Reason.{Reason}
use Rattle.waits.specs.declared.refusals.Refusal.{Refusal}
use Rattle.step.specs.declared.answers.Answer.{Answer}
use Rattle.lent.specs.Kept.{record_size}

-- Every node's record, every message ever sent, numbered from 0, how many these are, and the highest round opened so far. The list of
-- messages may have places past those sent.
pub record Bench : Type 0 where
  pub records : List ℕ
  pub messages : List ℕ
  pub sent : ℕ
  pub highest : ℕ

abbrev pub bench : List ℕ → List ℕ → ℕ → ℕ → Bench
bench records messages sent highest = record { records = records; messages = messages; sent = sent; highest = highest }

-- A bench on which nothing has happened: every record is blank in round 0, nothing is sent and no round opened. The places for
-- messages may have anything in them.
abbrev pub fresh : ℕ → List ℕ → Bench
fresh n messages = bench (replicate (n * record_size) 0) messages 0 0

-- the most messages that a bench holds
abbrev pub most_room : ℕ
most_room = 4096

-- the room is the lent list's length, or 4,096 if that list is longer
unfoldable pub room_of : ℕ → ℕ
room_of places = min places most_room

abbrev pub room : Bench → ℕ
room b = room_of (length b.messages)

-- a refusal by a bench: its reasons are not of a row, and give row 0
abbrev pub refusal : Reason → Refusal
refusal reason = record { reason = reason; row = record { 0 = 0 } }

-- A step leaves a bench, and answers.
pub record After : Type 0 where
  pub bench : Bench
  pub answer : Result Answer Refusal

abbrev pub after : Bench → Result Answer Refusal → After
after b answer = record { bench = b; answer = answer }
