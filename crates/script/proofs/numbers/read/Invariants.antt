-- `read` meets its contract. The loop's invariant: what was stored and counted, and what the rest of the text says, are what the
-- whole text says. Assumes nothing.
use Rattle.script.proofs.Reading.{Reading}
use Rattle.script.proofs.numbers.read.Given as goal

abbrev pub invariant-loop-b : goal.invariant-loop-b
invariant-loop-b l = Reading l.script l.initial.numbers l.numbers l.count l.p l.b-index
