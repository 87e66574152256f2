-- One round, opened at a node: what may come of it, whatever is lost, repeated, shuffled or late. Assumes nothing.
use Rattle.std.specs.Prelude.{Bool, cond, ℕ, eqb}
use mathlib.Core.List.{List, [], ◌∷◌, ◌++◌, Memᴰ}
use Rattle.records.specs.declared.messages.Kind.{Kind}
use Rattle.records.specs.Messages.{Letter}
use Rattle.records.specs.Records.{State, blank_of}
use Rattle.waits.specs.Waits.{Waits}
use Rattle.step.specs.Step.{Outcome, seen_in, complete, open_round, receive}
use Rattle.step.specs.Letters.{letters_of}

-- A state of the round: every node's record, and the messages sent in it, the first one first.
pub record Stage : Type 0 where
  pub records : ℕ → State
  pub sent : List Letter

-- the record of node i is s now, and all others are as they were
unfoldable pub put : (ℕ → State) → ℕ → State → ℕ → State
put records i s k = cond (eqb k i) s (records k)

-- What node i did joins the state: its record, and its messages after all those sent so far.
abbrev pub joined : Stage → ℕ → Outcome → Stage
joined c i out = record {
  records = put c.records i out.state;
  sent = c.sent ++ letters_of i out.state.round out.sends;
}

-- nobody has heard of the round
abbrev pub unheard : ℕ → Stage
unheard round = record { records = λ i. blank_of round; sent = [] }

-- what its receiver does with a message
abbrev pub reply : Waits → Stage → Letter → Outcome
reply w c m = receive (seen_in w m.to) (c.records m.to) m

-- a message is delivered
abbrev pub delivery : Waits → Stage → Letter → Stage
delivery w c m = joined c m.to (reply w c m)

-- The state after the messages of a list have been delivered, the newest first, in the round that node s opened.
unfoldable pub after : Waits → ℕ → ℕ → List Letter → Stage
after w s round [] = joined (unheard round) s (open_round (seen_in w s) round)
after w s round (m ∷ l) = delivery w (after w s round l) m

-- A course of the round: the messages delivered, each of which had been sent. Any of those sent may be the next, at any time and
-- again and again. One that is lost, or that comes to a node which has left the round and ignores it, isn't in the list.
abbrev pub Course : Waits → ℕ → ℕ → List Letter → Type 0
Course w s round [] = Unit {0}
Course w s round (m ∷ l) = Memᴰ m (after w s round l).sent × Course w s round l

-- what a message of the round is known by: its kind, its sender and its receiver
abbrev pub way_of : Letter → Kind × ℕ × ℕ
way_of m = (m.kind, m.from, m.to)

-- every message sent has been delivered at least once
abbrev pub AllDelivered : List Letter → Stage → Type 0
AllDelivered l c = (m : Letter) → Memᴰ m c.sent → Memᴰ m l

-- the round has ended: its initiator has all that it awaits
abbrev pub ended : Waits → ℕ → Stage → Bool
ended w s c = complete (seen_in w s) (c.records s)
