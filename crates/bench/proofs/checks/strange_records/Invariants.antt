-- `strange_records` meets its contract. Assumes nothing.
use Rattle.bench.proofs.Made.{NoneBelow}
use Rattle.bench.proofs.checks.strange_records.Given as goal

abbrev pub invariant-loop-i : goal.invariant-loop-i
invariant-loop-i l = NoneBelow l.nodes l.highest.0 l.records l.i
