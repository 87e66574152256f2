-- What a message says, and when it can't be. Assumes nothing.
use Rattle.std.specs.Prelude.{Bool, ◌||◌, ℕ, zero, suc, leb}
use Rattle.nodes.specs.Sets.{no_node}
use Rattle.records.specs.declared.messages.Kind.{Kind}
use Rattle.records.specs.declared.messages.Kind.TheVariants.{Notify, Grant, Ack, Done}
use Rattle.records.specs.declared.messages.Message.{Message}
use Rattle.records.specs.declared.letters.Letter.{Letter as Accepted}
use Rattle.records.specs.Rounds.{no_round}

-- the kind of a number: 0 NOTIFY, 1 GRANT, 2 ACK, 3 DONE; there are no others
abbrev pub kinds : ℕ
kinds = 4

abbrev pub kind_of : ℕ → Kind
kind_of zero = Notify
kind_of (suc zero) = Grant
kind_of (suc (suc zero)) = Ack
kind_of (suc (suc (suc k))) = Done

-- and back
abbrev pub kind_number : Kind → ℕ
kind_number Notify = 0
kind_number Grant = 1
kind_number Ack = 2
kind_number Done = 3

-- A message as the rules see it: kind, sender, receiver, round.
pub record Letter : Type 0 where
  pub kind : Kind
  pub from : ℕ
  pub to : ℕ
  pub round : ℕ

abbrev pub letter_of : Message → Letter
letter_of m = record { kind = kind_of m.kind; from = m.from.0; to = m.to.0; round = m.round.0 }

-- what one says that is accepted
abbrev pub said_by : Accepted → Letter
said_by m = record { kind = m.kind; from = m.from.0; to = m.to.0; round = m.round.0 }

-- 13, of a message: its kind, its sender, its receiver or its round doesn't exist
unfoldable pub strange_message : ℕ → Message → Bool
strange_message n m = leb kinds m.kind || (no_node n m.from.0 || (no_node n m.to.0 || no_round m.round.0))
