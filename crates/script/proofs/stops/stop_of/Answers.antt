-- `stop_of` meets its contract. Assumes nothing.
use Rattle.script.proofs.Stopping.{walk_kept}
use Rattle.script.proofs.stops.stop_of.Goals as goal

pub loop-b-preserved : goal.loop-b-preserved
loop-b-preserved c = walk_kept _ _ _ _ c.loop-b.invariant c.loop-b-test.true _ c.place_after.ensures c.in_ok-p.ensures.cases c.line_after-line.ensures
