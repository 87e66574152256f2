-- `take_steps` meets its contract. Assumes nothing.
use Rattle.std.proofs.Common.{refl, ◌∙◌}
use Rattle.bench.proofs.Turns.{turn_answer, turn_next}
use Rattle.bench.proofs.calls.take_steps.Goals as goal

pub answer_number-requires : goal.answer_number-requires
answer_number-requires c = turn_answer _ _ _ _ _ _ _ _ c.loop-j.invariant.turn c.step_of.ensures (rw c.loop-j.invariant.same_lists.0 at c.take_step-answer.ensures.taken)

pub loop-j-preserved : goal.loop-j-preserved
loop-j-preserved c =
    let old = c.loop-j.invariant.same_lists in
    let new = c.take_step-answer.ensures.same_lists in
    record {
      same_lists = (new.0 ∙ old.0, new.1 ∙ old.1, new.2 ∙ old.2);
      turn = turn_next _ _ _ _ _ _ _ _ c.loop-j.invariant.turn c.step_of.ensures (rw old.0 at c.take_step-answer.ensures.taken) c.loop-j-test.true c.answer_number.ensures refl;
    }
