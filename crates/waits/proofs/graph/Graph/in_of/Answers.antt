-- `in_of` meets its contract. The loop's invariant: the nodes passed that have j in OUT are gathered. Assumes nothing.
use mathlib.Core.Bool.{true, false}
use mathlib.Core.Path.{ap, ◌∙◌}
use Rattle.nodes.proofs.Gather.{gather_next}
use Rattle.nodes.specs.Words.{num}
use Rattle.waits.proofs.Cases.{waits_on}
use Rattle.waits.proofs.graph.Graph.in_of.Goals as goal
use Rattle.waits.proofs.graph.Graph.in_of.Goals.{then-has, else-has}

pub loop-i-preserved : goal.loop-i-preserved
loop-i-preserved c = elim c.if-has.branch [
  | then-has w ↦ ap num w.found-is ∙ w.with-found.ensures ∙ gather_next _ _ _ true c.loop-i.invariant (waits_on _ _ _ c.has.ensures c.out_of.ensures c.row.ensures w.if-has.true)
  | else-has w ↦ ap num w.found-is ∙ gather_next _ _ _ false c.loop-i.invariant (waits_on _ _ _ c.has.ensures c.out_of.ensures c.row.ensures w.if-has.false)
]
