-- `fault_of` meets its contract. Assumes nothing.
use mathlib.Core.Path.{ap, ◌∙◌}
use borrow.Author.Tests.{lt-ltb, le-ltb}
use Rattle.lemmas.proofs.Cases.{at_true, at_false}
use Rattle.faults.specs.Faults.{row_fault, fault_of}
use Rattle.faults.proofs.fault_of.Goals as goal

pub returns-then-line-lt2 : goal.returns-then-line-lt2
unfolding fault_of
returns-then-line-lt2 c = at_true _ (lt-ltb _ 2 c.if-line-lt2.true) c.header_fault.ensures

pub returns : goal.returns
unfolding fault_of
returns c = at_false _ (le-ltb _ 2 c.if-line-lt2.false) (c.row_fault.ensures ∙ ap row_fault c.line_at.ensures)
