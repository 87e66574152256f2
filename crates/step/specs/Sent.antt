-- What a record by itself says that its node has sent in its round, and which records can come about. Assumes nothing.
use Rattle.std.specs.Prelude.{◌≡◌, Bool, true, false, cond, ℕ}
use Rattle.nodes.specs.Sets.{Inside, has, union, meet, minus}
use Rattle.records.specs.declared.messages.Kind.{Kind}
use Rattle.records.specs.declared.messages.Kind.TheVariants.{Notify, Grant, Ack, Done}
use Rattle.records.specs.Causes.{by_itself, sender_of}
use Rattle.records.specs.Messages.{Letter}
use Rattle.records.specs.Records.{State, called, free, had_of}
use Rattle.step.specs.Step.{Seen, Receivers, active, acked, complete, neighbours, stray}

-- those of had whose message is answered: all, but for t until what the answer to t awaits is in
abbrev pub answered : Bool → ℕ → ℕ → ℕ
answered ready had t = cond ready had (minus had t)

-- The receivers of each kind, by the record alone. NOTIFY: all OUT of a called node. GRANT: all IN of a free node. ACK: those
-- whose GRANT was had, the one that freed the node only once ACK is in from all IN. DONE: those whose NOTIFY was had, the
-- caller only once what a called node awaits is in.
abbrev pub sent : Seen → State → Kind → ℕ
sent o s Notify = cond (called s) o.out 0
sent o s Grant = cond (free s) o.ins 0
sent o s Ack = answered (acked o s) s.grant (sender_of s.freed)
sent o s Done = answered (complete o s) s.notify (sender_of s.call)

-- the receivers of a kind in one step
abbrev pub to_whom : Receivers → Kind → ℕ
to_whom r Notify = r.notify
to_whom r Grant = r.grant
to_whom r Ack = r.ack
to_whom r Done = r.done

-- after is before with now added, of whom nobody was there before
abbrev pub Adds : ℕ → ℕ → ℕ → Type 0
Adds before now after = (after ≡ union before now) × (meet before now ≡ 0)

-- From one record to the next, what is said to be sent grows by exactly what the step sends, and nothing is sent twice.
abbrev pub Grows : Seen → State → Receivers → State → Type 0
Grows o before now after = (k : Kind) → Adds (sent o before k) (to_whom now k) (sent o after k)

-- a message that is neither stray nor a repeat
abbrev pub Fresh : Seen → State → Letter → Type 0
Fresh o s m = (stray o s m ≡ false) × (has (had_of m.kind s) m.from ≡ false)

-- What is used of a graph at one node: more grants never unmeet the condition, and an active node waits on nobody.
pub record Sound (o : Seen) : Type 0 where
  pub monotone : (g h : ℕ) → Inside g h → o.holds g ≡ true → o.holds h ≡ true
  pub active_out : active o ≡ true → o.out ≡ 0

-- A record that can come about. The caller's NOTIFY and the freer's GRANT were had; a node that isn't called had no NOTIFY and
-- no DONE, and one that isn't free no ACK; an active node is free exactly if it is called, and nobody freed it; any other is
-- free exactly if its condition holds with those whose GRANT was had, and didn't free itself; and each sender is a neighbour.
pub record Formed (o : Seen) (s : State) : Type 0 where
  pub caller : Inside (sender_of s.call) s.notify
  pub uncalled : called s ≡ false → (s.notify ≡ 0) × (s.done ≡ 0)
  pub freer : Inside (sender_of s.freed) s.grant
  pub unfree : free s ≡ false → s.ack ≡ 0
  pub if_active : active o ≡ true → (free s ≡ called s) × (sender_of s.freed ≡ 0)
  pub if_waiting : active o ≡ false → (free s ≡ o.holds s.grant) × (by_itself s.freed ≡ false)
  pub senders : (k : Kind) → Inside (had_of k s) (neighbours o k)
