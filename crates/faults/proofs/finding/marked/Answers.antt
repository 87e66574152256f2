-- `marked` meets its contract. Assumes nothing.
use mathlib.Core.Path.{◌∙◌}
use Rattle.faults.proofs.Standing.{marked_same}
use Rattle.faults.proofs.finding.marked.Goals as goal

pub returns : goal.returns
returns c = c.starts_with.ensures.value ∙ marked_same _
