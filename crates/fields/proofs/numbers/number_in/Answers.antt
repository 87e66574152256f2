-- `number_in` meets its contract. Assumes nothing.
use mathlib.Core.Path.{◌∙◌}
use Rattle.lemmas.proofs.Cases.{flag}
use Rattle.fields.proofs.Digits.{number_empty, digits_start, digits_next, digits_strange, digits_end}
use Rattle.fields.proofs.numbers.number_in.Goals as goal

pub returns-then-is_empty : goal.returns-then-is_empty
returns-then-is_empty c = number_empty _ (flag c.is_empty.ensures c.if-is_empty.true)

pub loop-b-init : goal.loop-b-init
loop-b-init c = digits_start _ (flag c.is_empty.ensures c.if-is_empty.false)

pub returns-in_err-v : goal.returns-in_err-v
returns-in_err-v c = c.from_residual.ensures ∙ digits_strange _ _ _ c.loop-b.invariant c.loop-b-test.true c.in_err-v.ensures

pub loop-b-preserved : goal.loop-b-preserved
loop-b-preserved c = digits_next _ _ _ c.loop-b.invariant c.loop-b-test.true c.in_ok-v.ensures

pub returns : goal.returns
returns c = digits_end _ _ _ c.loop-b.invariant c.loop-b-test.false
