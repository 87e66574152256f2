-- What a record says, and when it can't be. Assumes nothing.
use Rattle.std.specs.Prelude.{Bool, cond, not, ◌||◌, ℕ, ltb}
use Rattle.nodes.specs.Sets.{union, with, below, inside}
use Rattle.nodes.specs.Words.{num}
use Rattle.records.specs.declared.causes.Why.{Why}
use Rattle.records.specs.declared.causes.Why.TheVariants.{Not}
use Rattle.records.specs.declared.messages.Kind.{Kind}
use Rattle.records.specs.declared.messages.Kind.TheVariants.{Notify, Grant, Ack, Done}
use Rattle.records.specs.declared.records.Record.{Record}
use Rattle.records.specs.Causes.{why_of, happened, strange_why, Fits}
use Rattle.records.specs.Rounds.{last_round, ahead}

-- A record as the rules see it: its round, whether and through whom the node is called and free in it, and the senders
-- whose NOTIFY, GRANT, ACK and DONE it has had.
pub record State : Type 0 where
  pub round : ℕ
  pub call : Why
  pub freed : Why
  pub notify : ℕ
  pub grant : ℕ
  pub ack : ℕ
  pub done : ℕ

abbrev pub state_of : Record → State
state_of r = record {
  round = r.round.0;
  call = why_of r.call.0;
  freed = why_of r.freed.0;
  notify = num r.notify;
  grant = num r.grant;
  ack = num r.ack;
  done = num r.done;
}

abbrev pub called : State → Bool
called s = happened s.call

abbrev pub free : State → Bool
free s = happened s.freed

-- the nodes that called and freed it have places in a set
abbrev pub Fitting : State → Type 0
Fitting s = Fits s.call × Fits s.freed

-- a blank record
abbrev pub blank_of : ℕ → State
blank_of round = record { round = round; call = Not; freed = Not; notify = 0; grant = 0; ack = 0; done = 0 }

-- the record as it stands in a round: a higher round blanks it first
unfoldable pub in_round : ℕ → State → State
in_round round s = cond (ahead round s.round) (blank_of round) s

abbrev pub with_call : Why → State → State
with_call by s = record { round = s.round; call = by; freed = s.freed; notify = s.notify; grant = s.grant; ack = s.ack; done = s.done }

abbrev pub with_freed : Why → State → State
with_freed by s = record { round = s.round; call = s.call; freed = by; notify = s.notify; grant = s.grant; ack = s.ack; done = s.done }

-- the senders of a kind that the node has had; the same with one more
abbrev pub had_of : Kind → State → ℕ
had_of Notify s = s.notify
had_of Grant s = s.grant
had_of Ack s = s.ack
had_of Done s = s.done

abbrev pub with_had : Kind → ℕ → State → State
with_had Notify h s = record { round = s.round; call = s.call; freed = s.freed; notify = h; grant = s.grant; ack = s.ack; done = s.done }
with_had Grant h s = record { round = s.round; call = s.call; freed = s.freed; notify = s.notify; grant = h; ack = s.ack; done = s.done }
with_had Ack h s = record { round = s.round; call = s.call; freed = s.freed; notify = s.notify; grant = s.grant; ack = h; done = s.done }
with_had Done h s = record { round = s.round; call = s.call; freed = s.freed; notify = s.notify; grant = s.grant; ack = s.ack; done = h }

abbrev pub mark_of : Kind → ℕ → State → State
mark_of kind from s = with_had kind (with (had_of kind s) from) s

-- a set has a member that isn't among n
unfoldable pub strange_set : ℕ → ℕ → Bool
strange_set n s = not (inside s (below n))

-- 13, of a record: its round, the node that called or freed it, or some sender doesn't exist
unfoldable pub strange_record : ℕ → State → Bool
strange_record n s =
    ltb last_round s.round
    || (strange_why n s.call
    || (strange_why n s.freed
    || strange_set n (union s.notify (union s.grant (union s.ack s.done)))))
