-- `fields_fault` meets its contract. Assumes nothing.
use lib.ListN.{length}
use Rattle.faults.proofs.Walking.{FieldsLeft}
use Rattle.faults.proofs.fields_fault.Given as goal

abbrev pub invariant-loop-field : goal.invariant-loop-field
invariant-loop-field l = FieldsLeft l.line (length l.yielded) l.column
