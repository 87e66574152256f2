-- `row_fault` meets its contract. Assumes nothing.
use mathlib.Core.Path.{ap, ◌∙◌}
use Rattle.faults.specs.Faults.{line_fault, row_fault}
use Rattle.faults.proofs.row_fault.Goals as goal

pub returns : goal.returns
unfolding row_fault
returns c = c.line_fault.ensures ∙ ap (line_fault _) c.fields_fault-own.ensures
