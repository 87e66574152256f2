-- `number` meets its contract. Assumes nothing.
use mathlib.Core.Path.{sym}
use Rattle.text.proofs.Writing.{wrote_as, wrote_then}
use Rattle.text.proofs.Decimal.{decimal_small, decimal_large}
use Rattle.text.proofs.Text.+number.Goals as goal

pub returns-then-n-lt10 : goal.returns-then-n-lt10
returns-then-n-lt10 t c = wrote_as (sym (decimal_small _ c.if-n-lt10.true)) c.put.ensures

pub returns : goal.returns
returns t c = wrote_as (sym (decimal_large _ c.if-n-lt10.false)) (wrote_then c.number.ensures c.put-2.ensures)
