-- `read` meets its contract. Assumes nothing.
use mathlib.Core.Path.{sym, ap, ◌∙◌}
use mathlib.Core.Bool.{not}
use Rattle.script.proofs.Reading.{reading_start, reading_ended, reading_grown, reading_strange, reading_many, reading_all}
use Rattle.script.proofs.numbers.read.Goals as goal
use Rattle.script.proofs.numbers.read.Goals.{then-is_none, else-is_none}

pub loop-b-init : goal.loop-b-init
loop-b-init c = reading_start _ _

pub returns-in_err-next : goal.returns-in_err-next
returns-in_err-next c = rw c.from_residual.ensures (reading_strange _ _ _ _ _ _ c.loop-b.invariant c.loop-b-test.true (sym c.in_err-next.was ∙ c.place_after.ensures))

pub loop-b-preserved : goal.loop-b-preserved
loop-b-preserved c =
    elim c.if-is_none.branch [
      | then-is_none w ↦ rw (w.numbers-is, w.count-is, w.p-is) (reading_ended _ _ _ _ _ _ c.loop-b.invariant c.loop-b-test.true _ (sym c.in_ok-next.was ∙ c.place_after.ensures) (c.is_none.ensures ∙ ap not w.if-is_none.true) w.end-count.ensures)
      | else-is_none w ↦ rw (w.numbers-is, w.count-is, w.p-is) (reading_grown _ _ _ _ _ _ c.loop-b.invariant c.loop-b-test.true _ (sym c.in_ok-next.was ∙ c.place_after.ensures) (c.is_none.ensures ∙ ap not w.if-is_none.false))
    ]

pub returns-then-numbers-count : goal.returns-then-numbers-count
returns-then-numbers-count c = reading_many _ _ _ _ _ _ c.loop-b.invariant c.loop-b-test.false c.end-count-2.ensures c.if-numbers-count.true

pub returns : goal.returns
returns c = reading_all _ _ _ _ _ _ c.loop-b.invariant c.loop-b-test.false c.end-count-2.ensures c.if-numbers-count.false
