-- `send_kind` meets its contract. Assumes nothing.
use Rattle.std.proofs.Common.{◌≤◌}
use Rattle.lent.proofs.Places.{Sending}
use Rattle.nodes.specs.Sets.{members}
use Rattle.nodes.specs.Words.{num, to_come}
use Rattle.lent.proofs.sending.send_kind.Given as goal

abbrev pub invariant-loop-k : goal.invariant-loop-k
invariant-loop-k l = record {
  first : l.first ≤ 1099511627776;
  sending : Sending l.first l.at (members (num l.fn.to)) l.initial.messages l.messages l.place (to_come l.k-iterator);
}
