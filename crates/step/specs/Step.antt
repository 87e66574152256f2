-- How one node behaves: an opening, and a message that isn't refused. The rules stand in the order in which one needs the
-- other; `open_round` and `receive`, at the end, are the whole step. Assumes nothing.
use Rattle.std.specs.Prelude.{Bool, true, cond, not, ◌&&◌, ◌||◌, ℕ, eqb, Option, None, Some, Result, Ok}
use Rattle.nodes.specs.Sets.{has, union, single, inside}
use Rattle.records.specs.declared.causes.Why.{Why}
use Rattle.records.specs.declared.causes.Why.TheVariants.{Itself, By}
use Rattle.records.specs.declared.messages.Kind.{Kind}
use Rattle.records.specs.declared.messages.Kind.TheVariants.{Notify, Grant, Ack, Done}
use Rattle.records.specs.Causes.{by_itself, sender_of}
use Rattle.records.specs.Rounds.{behind}
use Rattle.records.specs.Messages.{Letter}
use Rattle.records.specs.Records.{State, called, free, blank_of, in_round, with_call, with_freed, had_of, mark_of}
use Rattle.waits.specs.declared.refusals.Refusal.{Refusal}
use Rattle.waits.specs.Waits.{Waits, in_of}
use Rattle.step.specs.declared.answers.Verdict.{Verdict}
use Rattle.step.specs.declared.answers.Verdict.TheVariants.{Deadlocked, NotDeadlocked}
use Rattle.step.specs.declared.answers.Answer.{Answer}
use Rattle.step.specs.declared.answers.Answer.TheVariants.{Old, Stray, Repeat, Taken, Opened}

-- What a node sees of the graph: its own number, its OUT, whether its condition holds when the nodes of a set have granted,
-- and its IN.
pub record Seen : Type 0 where
  pub me : ℕ
  pub out : ℕ
  pub holds : ℕ → Bool
  pub ins : ℕ

-- what node i sees of a graph of waits
abbrev pub seen_in : Waits → ℕ → Seen
seen_in w i = record { me = i; out = w.out i; holds = w.holds i; ins = in_of w i }

-- its condition holds with nobody granting
abbrev pub active : Seen → Bool
active o = o.holds 0

-- the node is free, and everybody who waits on it has answered ACK
unfoldable pub acked : Seen → State → Bool
acked o s = free s && inside o.ins s.ack

-- the node is called, and has all that it awaits then: DONE from everybody that it waits on and, if it is active, ACK from
-- everybody who waits on it
unfoldable pub complete : Seen → State → Bool
complete o s = called s && (inside o.out s.done && (not (active o) || inside o.ins s.ack))

-- The receivers of NOTIFY, GRANT, ACK and DONE in one step.
pub record Receivers : Type 0 where
  pub notify : ℕ
  pub grant : ℕ
  pub ack : ℕ
  pub done : ℕ

abbrev pub nobody : Receivers
nobody = record { notify = 0; grant = 0; ack = 0; done = 0 }

-- messages of one kind
abbrev pub sending : Kind → ℕ → Receivers
sending Notify to = record { notify = to; grant = 0; ack = 0; done = 0 }
sending Grant to = record { notify = 0; grant = to; ack = 0; done = 0 }
sending Ack to = record { notify = 0; grant = 0; ack = to; done = 0 }
sending Done to = record { notify = 0; grant = 0; ack = 0; done = to }

-- What a step has done so far: to the record, and who is sent what.
pub record Move : Type 0 where
  pub state : State
  pub sends : Receivers

abbrev pub move : State → Receivers → Move
move s sends = record { state = s; sends = sends }

-- A node that becomes free grants to everybody who waits on it.
unfoldable pub become_free : Seen → Why → State → Move
become_free o by s = move (with_freed by s) (sending Grant o.ins)

-- A call is passed on with NOTIFY to everybody that the node waits on, whether or not it is free. An active node has nobody to
-- pass it on to and becomes free, unless it is: that happens once a round.
unfoldable pub be_called : Seen → Why → State → Move
be_called o by s =
    cond (not (active o)) (move (with_call by s) (sending Notify o.out))
    (cond (free s) (move (with_call by s) nobody)
    (become_free o Itself (with_call by s)))

-- an answer that goes at once
abbrev pub answer_with : Kind → ℕ → State → Move
answer_with kind to s = move s (sending kind (single to))

-- NOTIFY calls a node that isn't called. Its sender is then the caller, whose DONE is held back; to a node that is called
-- already it gets DONE at once.
unfoldable pub on_notify : Seen → ℕ → State → Move
on_notify o from s = cond (called s) (answer_with Done from s) (be_called o (By (record { 0 = from })) s)

-- the node wasn't free, and its condition holds with those whose GRANT was had
abbrev pub frees : Seen → State → Bool
frees o s = not (free s) && o.holds s.grant

-- GRANT frees a node once its condition holds. Its sender is then the freer, whose ACK is held back; in every other case it gets
-- ACK at once.
unfoldable pub on_grant : Seen → ℕ → State → Move
on_grant o from s = cond (frees o s) (become_free o (By (record { 0 = from })) s) (answer_with Ack from s)

-- what a message does whose sender is marked already
abbrev pub react : Seen → ℕ → State → Kind → Move
react o from s Notify = on_notify o from s
react o from s Grant = on_grant o from s
react o from s Ack = move s nobody
react o from s Done = move s nobody

-- it wasn't so before the step, and is so after it
abbrev pub newly : Bool → Bool → Bool
newly before after = not before && after

-- who now gets the answer that was held back
unfoldable pub owed : Bool → Why → ℕ
owed now by = cond now (sender_of by) 0

-- what the end of a round says: only its initiator says anything
unfoldable pub verdict_of : Bool → State → Option Verdict
verdict_of ended s = cond (ended && by_itself s.call) (Some (cond (free s) NotDeadlocked Deadlocked)) None

-- What a step has done in the end.
pub record End : Type 0 where
  pub state : State
  pub sends : Receivers
  pub verdict : Option Verdict

-- What was held back: ACK to the freer in the step in which the node comes to be acked; DONE to the caller, or an initiator's
-- verdict, in the step in which it comes to be complete.
unfoldable pub settle : Seen → State → Move → End
settle o before m = record {
  state = m.state;
  sends = record {
    notify = m.sends.notify;
    grant = m.sends.grant;
    ack = union m.sends.ack (owed (newly (acked o before) (acked o m.state)) m.state.freed);
    done = union m.sends.done (owed (newly (complete o before) (complete o m.state)) m.state.call);
  };
  verdict = verdict_of (newly (complete o before) (complete o m.state)) m.state;
}

-- What is handed back: the next record, who is sent what, and the answer.
pub record Outcome : Type 0 where
  pub state : State
  pub sends : Receivers
  pub answer : Result Answer Refusal

abbrev pub saying : (Option Verdict → Answer) → End → Outcome
saying say e = record { state = e.state; sends = e.sends; answer = Ok (say e.verdict) }

-- the record stays, and nothing is sent
abbrev pub still : State → Result Answer Refusal → Outcome
still s answer = record { state = s; sends = nobody; answer = answer }

-- An initiator starts from a blank record in the new round, and is called by itself: nobody awaits its DONE.
unfoldable pub open_round : Seen → ℕ → Outcome
open_round o round = saying Opened (settle o (blank_of round) (be_called o Itself (blank_of round)))

-- NOTIFY and ACK come from IN, GRANT and DONE from OUT
abbrev pub neighbours : Seen → Kind → ℕ
neighbours o Notify = o.ins
neighbours o Grant = o.out
neighbours o Ack = o.ins
neighbours o Done = o.out

-- ACK comes to a free node, DONE to a called one
abbrev pub expects : State → Kind → Bool
expects s Notify = true
expects s Grant = true
expects s Ack = free s
expects s Done = called s

-- it isn't for this node, its sender is no neighbour for its kind, or it answers what this node didn't send in its round
unfoldable pub stray : Seen → State → Letter → Bool
stray o s m = not (eqb m.to o.me) || (not (has (neighbours o m.kind) m.from) || not (expects s m.kind))

-- A message that is taken: its sender is marked first.
unfoldable pub take : Seen → State → Letter → Outcome
take o s m = saying Taken (settle o s (react o m.from (mark_of m.kind m.from s) m.kind))

-- A message of the record's round or a higher one, s being the record in that round and r the record as it was.
unfoldable pub arrive : Seen → State → State → Letter → Outcome
arrive o r s m =
    cond (stray o s m) (still r (Ok Stray))
    (cond (has (had_of m.kind s) m.from) (still r (Ok Repeat))
    (take o s m))

-- What a delivery is: old, stray, a repeat or taken, the first that fits; all but taken change nothing.
unfoldable pub receive : Seen → State → Letter → Outcome
receive o r m = cond (behind m.round r.round) (still r (Ok Old)) (arrive o r (in_round m.round r) m)
