-- Messages in a lent list: one number each. Assumes nothing.
use Rattle.std.specs.Prelude.{ℕ, ◌+◌, ◌*◌, ◌/◌, ◌%◌, ◌^◌}
use Rattle.records.specs.declared.messages.Kind.{Kind}
use Rattle.records.specs.declared.messages.Message.{Message}
use Rattle.records.specs.Messages.{Letter, kind_number}

-- the number of the message of a kind, from a node, in a round, to node 0; that of a message
abbrev pub base_of : Kind → ℕ → ℕ → ℕ
base_of kind from round = round * 2 ^ 24 + kind_number kind * 2 ^ 16 + from * 2 ^ 8

unfoldable pub number_of : Letter → ℕ
number_of m = base_of m.kind m.from m.round + m.to

-- and back: every number is some message, whether or not there can be one
unfoldable pub message_of : ℕ → Message
message_of x = record {
  kind = x / 2 ^ 16 % 2 ^ 8;
  from = record { 0 = x / 2 ^ 8 % 2 ^ 8 };
  to = record { 0 = x % 2 ^ 8 };
  round = record { 0 = x / 2 ^ 24 };
}
