-- The loop's invariant: the lines that are left are read and stored to the same end as all of them from the start. Assumes nothing.
use lib.ListN.{length}
use Rattle.reader.proofs.Storing.{Storing}
use Rattle.reader.proofs.files.read_rows.Given as goal

abbrev pub invariant-loop-rest : goal.invariant-loop-rest
invariant-loop-rest l = Storing l.text l.initial.rows l.rows l.rest l.k

abbrev pub decreases-loop-rest : goal.decreases-loop-rest
decreases-loop-rest l = length l.rest
