-- `node_lines` meets its contract. Assumes nothing.
use mathlib.Core.Path.{ap}
use Rattle.text.specs.Words.{word}
use Rattle.text.proofs.Writing.{wrote_then, left_next, left_none}
use Rattle.report.specs.Report.{node_lines}
use Rattle.report.proofs.node_lines.Goals as goal

pub loop-k-preserved : goal.loop-k-preserved
unfolding node_lines word
loop-k-preserved c = left_next c.loop-k.invariant (wrote_then c.number.ensures c.put.ensures) (ap node_lines c.in-Some.ensures.steps)

pub returns : goal.returns
unfolding node_lines
returns c = left_none c.loop-k.invariant (ap node_lines c.in-None.ensures.steps.0)
