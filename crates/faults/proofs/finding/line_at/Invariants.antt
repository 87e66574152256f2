-- `line_at` meets its contract. Assumes nothing.
use Rattle.faults.proofs.Standing.{Ahead}
use Rattle.faults.proofs.finding.line_at.Given as goal

abbrev pub invariant-loop : goal.invariant-loop
invariant-loop l = Ahead l.file l.index l.rest l.counter
