-- The two calls of a controller, for every input: refused, or the step. Assumes nothing.
use Rattle.std.specs.Prelude.{List, ℕ, Result, Ok, Err}
use Rattle.records.specs.declared.messages.Message.{Message}
use Rattle.records.specs.Messages.{letter_of}
use Rattle.records.specs.Records.{State}
use Rattle.waits.specs.declared.refusals.Refusal.{Refusal}
use Rattle.waits.specs.Rows.{row_at}
use Rattle.step.specs.Step.{Seen, Outcome, still, open_round, receive}
use Rattle.step.specs.Views.{seen_by}
use Rattle.node.specs.Refusals.{check_open_of, check_deliver_of}

-- what a node sees that is told its own number, its six row numbers and its IN
abbrev pub own : ℕ → List ℕ → ℕ → Seen
own me row ins = seen_by me (row_at row 0) ins

-- a refusal hands back the record as it was and sends nothing
abbrev pub unless_refused : State → Outcome → Result Unit Refusal → Outcome
unless_refused s out (Ok tt) = out
unless_refused s out (Err r) = still s (Err r)

-- n is the node count; round is the round to open
unfoldable pub open_of : ℕ → ℕ → List ℕ → ℕ → State → ℕ → Outcome
open_of n me row ins s round = unless_refused s (open_round (own me row ins) round) (check_open_of n me row ins s round)

unfoldable pub deliver_of : ℕ → ℕ → List ℕ → ℕ → State → Message → Outcome
deliver_of n me row ins s m = unless_refused s (receive (own me row ins) s (letter_of m)) (check_deliver_of n me row ins s m)
