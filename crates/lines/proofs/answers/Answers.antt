-- `answers` meets its contract. Assumes nothing.
use Rattle.std.proofs.lemmas.List.{at_drop_more, at_drop_all}
use Rattle.text.proofs.Writing.{left_next, left_none}
use Rattle.lines.specs.Lines.{answer_lines}
use Rattle.lines.proofs.answers.Goals as goal

pub loop-x-preserved : goal.loop-x-preserved
unfolding answer_lines
loop-x-preserved c = left_next c.loop-x.invariant c.answer.ensures (at_drop_more answer_lines _ _ 0 c.loop-x-test.true)

pub returns : goal.returns
unfolding answer_lines
returns c = left_none c.loop-x.invariant (at_drop_all answer_lines _ _ c.loop-x-test.false)
