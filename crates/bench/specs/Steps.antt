-- One step of a bench: a round is opened, a message is delivered, or neither. Assumes nothing.
use Rattle.std.specs.Prelude.{cond, List, map, ℕ, ◌+◌, eqb, leb, ltb, length, get_or, Err}
use Rattle.std.proofs.lemmas.List.Edits.{sets}
use Rattle.nodes.specs.Sets.{no_node}
use Rattle.records.specs.Rounds.{cannot_open}
use Rattle.records.specs.Messages.{Letter, letter_of}
use Rattle.waits.specs.Waits.{Waits}
use Rattle.waits.specs.Rows.{waits_of}
use Rattle.step.specs.Step.{Outcome, seen_in, open_round, receive}
use Rattle.step.specs.Letters.{letters_of}
use Rattle.lent.specs.declared.steps.Step.{Step}
use Rattle.lent.specs.Kept.{state_at, put_state}
use Rattle.lent.specs.Coded.{message_of, number_of}
use Rattle.bench.specs.Bench.{Bench, After, bench, after, room, refusal}
use Rattle.bench.specs.Strange.{strange_bench}
use Rattle.waits.specs.declared.refusals.Reason.{Reason}
use Rattle.waits.specs.declared.refusals.Reason.TheVariants.{NoNode, CannotOpen, NoStep, FullRoom, StrangeState}

-- a refused step changes nothing
abbrev pub refuse : Reason → Bench → After
refuse reason b = after b (Err (refusal reason))

-- What node i did joins the bench: its record, and its messages after all those sent so far. 12 if these don't fit the room.
unfoldable pub join : Bench → ℕ → ℕ → Outcome → After
join b highest i out =
    let new = letters_of i out.state.round out.sends in
    cond (ltb (room b) (b.sent + length new)) (refuse FullRoom b)
    (after
    (bench (put_state b.records i out.state) (sets b.messages b.sent (map number_of new)) (b.sent + length new) highest)
    out.answer)

-- Node i opens a round: 9 if there is no such node, then 10.
unfoldable pub open_at : Waits → Bench → ℕ → ℕ → After
open_at w b i round =
    cond (no_node w.nodes i) (refuse NoNode b)
    (cond (cannot_open b.highest round) (refuse CannotOpen b)
    (join b round i (open_round (seen_in w i) round)))

-- a message arrives where it is addressed to
unfoldable pub arrive_at : Waits → Bench → Letter → After
arrive_at w b m = join b b.highest m.to (receive (seen_in w m.to) (state_at b.records m.to) m)

-- message k
abbrev pub letter_at : Bench → ℕ → Letter
letter_at b k = letter_of (message_of (get_or b.messages k 0))

-- It is delivered, whether or not it was before: 11 if there is none yet.
unfoldable pub deliver_at : Waits → Bench → ℕ → After
deliver_at w b k = cond (leb b.sent k) (refuse NoStep b) (arrive_at w b (letter_at b k))

-- kind 0 opens node a in round b, kind 1 delivers message a; there are no others
unfoldable pub take_step : Waits → Bench → Step → After
take_step w b s =
    cond (eqb s.kind 0) (open_at w b s.a s.b)
    (cond (eqb s.kind 1) (deliver_at w b s.a)
    (refuse NoStep b))

-- One step by itself: 13 before all else.
unfoldable pub step_on : ℕ → List ℕ → Bench → Step → After
step_on n rows b s = cond (strange_bench n rows b) (refuse StrangeState b) (take_step (waits_of n rows) b s)
