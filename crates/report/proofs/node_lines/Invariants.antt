-- The loop's invariant: the members that are left make of the lent bytes what all of them make of them as found. Assumes nothing.
use Rattle.nodes.specs.Sets.{members}
use Rattle.nodes.specs.Words.{num, to_come}
use Rattle.text.proofs.Writing.{Left}
use Rattle.report.specs.Report.{node_lines}
use Rattle.report.proofs.node_lines.Given as goal

abbrev pub invariant-loop-k : goal.invariant-loop-k
invariant-loop-k l = Left l.fn.out l.out (node_lines (to_come l.k-iterator)) (node_lines (members (num l.fn.s)))
