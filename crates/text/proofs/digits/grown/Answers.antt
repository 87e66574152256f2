-- `grown` meets its contract. Assumes nothing.
use Rattle.std.proofs.Common.{◌∙◌, arith}
use Rattle.text.proofs.Reading.{a_digit, no_digit, grown_strange, grown_large, grown_by}
use Rattle.text.proofs.digits.grown.Goals as goal

pub returns-then-not-is_ascii_digit : goal.returns-then-not-is_ascii_digit
returns-then-not-is_ascii_digit c = grown_strange _ _ (no_digit _ c.if-not-is_ascii_digit.ensures.cases)

pub returns-in_err-checked_mul : goal.returns-in_err-checked_mul
returns-in_err-checked_mul c = c.from_residual.ensures ∙ grown_large _ _ (a_digit _ c.if-not-is_ascii_digit.ensures.cases) (omega arith)

pub returns : goal.returns
returns c = grown_by _ _ _ (a_digit _ c.if-not-is_ascii_digit.ensures.cases) (omega arith) c.checked_add.ensures
