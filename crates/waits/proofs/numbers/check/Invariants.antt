-- `check` meets its contract. The loop's invariant: the answer is that of the lines from row k on. Assumes nothing.
use Rattle.waits.proofs.Left.{Left}
use Rattle.waits.proofs.numbers.check.Given as goal

abbrev pub invariant-loop-k : goal.invariant-loop-k
invariant-loop-k l = Left l.nodes l.rows l.k
