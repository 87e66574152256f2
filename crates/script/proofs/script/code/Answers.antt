-- `code` meets its contract. Assumes nothing.
use mathlib.Core.Path.{sym, ◌∙◌}
use native.Mathlib.Omega.{arith}
use Rattle.script.proofs.Told.{told_none, told_enough, told_good, told_few, told_coded}
use Rattle.script.proofs.script.code.Goals as goal

pub returns-in_err-shape : goal.returns-in_err-shape
returns-in_err-shape c = rw c.from_residual.ensures (told_none _ _ (sym c.in_err-shape.was ∙ c.shaped.ensures))

pub overflow_add-shape : goal.overflow_add-shape
overflow_add-shape c = omega (arith, told_enough _ _ (sym c.in_ok-shape.was ∙ c.shaped.ensures))

pub offset_bounds-numbers-shape : goal.offset_bounds-numbers-shape
offset_bounds-numbers-shape c = omega (arith, told_enough _ _ (sym c.in_ok-shape.was ∙ c.shaped.ensures))

pub slice_bounds-code_steps-count : goal.slice_bounds-code_steps-count
slice_bounds-code_steps-count c = told_enough _ _ (sym c.in_ok-shape.was ∙ c.shaped.ensures)

pub slice_bounds-code_steps-start : goal.slice_bounds-code_steps-start
slice_bounds-code_steps-start c = told_enough _ _ (sym c.in_ok-shape.was ∙ c.shaped.ensures)

pub code_steps-requires : goal.code_steps-requires
code_steps-requires c = (told_good _ _ (sym c.in_ok-shape.was ∙ c.shaped.ensures), told_few _ _ (sym c.in_ok-shape.was ∙ c.shaped.ensures) c.requires)

pub returns : goal.returns
returns c = told_coded _ _ (sym c.in_ok-shape.was ∙ c.shaped.ensures) _ c.code_steps.ensures
