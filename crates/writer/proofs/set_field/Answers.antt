-- `set_field` meets its contract. Assumes nothing.
use mathlib.Core.Path.{sym, ◌∙◌}
use Rattle.text.proofs.Writing.{wrote_as, left_all, left_next, left_none}
use Rattle.writer.proofs.Parts.{set_first, set_none, member_next, member_none}
use Rattle.writer.proofs.set_field.Goals as goal

pub returns-in_default : goal.returns-in_default
returns-in_default c = wrote_as (sym (set_none _ (sym c.members-members.ensures ∙ c.in_default.ensures.steps.0))) c.put.ensures

pub loop-k-init : goal.loop-k-init
loop-k-init c =
    let h = c.in-Some.ensures.steps in
    left_next (left_all _ _) c.after.ensures (set_first _ (cc))

pub loop-k-preserved : goal.loop-k-preserved
loop-k-preserved c = left_next c.loop-k.invariant c.after-in-loop-k.ensures (member_next c.in-Some-k.ensures.steps)

pub returns : goal.returns
returns c = left_none c.loop-k.invariant (member_none c.in-None.ensures.steps.0)
