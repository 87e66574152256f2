-- `line_end` meets its contract. Assumes nothing.
use native.Mathlib.Omega.{arith}
use Rattle.lemmas.proofs.Cases.{flag}
use Rattle.fields.proofs.Finding.{end_found, end_on, end_none}
use Rattle.fields.proofs.ends.line_end.Goals as goal

pub loop-i-init : goal.loop-i-init
loop-i-init c = (omega arith, omega arith)

pub returns-then-ends_at : goal.returns-then-ends_at
returns-then-ends_at c = (omega (arith, c.loop-i.invariant.1, end_found c.loop-i.i c.args.s.now (omega arith) (flag c.ends_at.ensures c.if-ends_at.true)), omega arith)

pub loop-i-preserved : goal.loop-i-preserved
loop-i-preserved c = (omega arith, omega (arith, c.loop-i.invariant.1, end_on c.loop-i.i c.args.s.now (omega arith) (flag c.ends_at.ensures c.if-ends_at.false)))

pub returns : goal.returns
returns c = (omega (arith, c.loop-i.invariant.1, end_none c.loop-i.i c.args.s.now (omega arith) (omega arith)), omega arith)
