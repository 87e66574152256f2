-- `first_satisfied` meets its contract. The loop's invariant: the answer is that of the members from here on. Assumes nothing.
use Rattle.nodes.specs.Words.{num}
use Rattle.waits.specs.Graph.{graph_of}
use Rattle.deadlock.proofs.Judging.{FirstLeft}
use Rattle.deadlock.proofs.offer.Offer.first_satisfied.Given as goal

abbrev pub invariant-loop-at : goal.invariant-loop-at
invariant-loop-at l = FirstLeft (graph_of l.self.graph) (num l.g) l.self.list.now l.at
