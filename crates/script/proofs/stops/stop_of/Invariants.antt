-- `stop_of` meets its contract. The loop's invariant: the rest of the text, from this line on, stops where the whole text does. Assumes nothing.
use Rattle.script.proofs.Stopping.{Walking}
use Rattle.script.proofs.stops.stop_of.Given as goal

abbrev pub invariant-loop-b : goal.invariant-loop-b
invariant-loop-b l = Walking l.script l.line l.p l.b-index
