-- The answer stands in its room. Assumes nothing.
use Rattle.text.proofs.Writing.{written_end}
use Rattle.replay.proofs.main.Goals as goal

pub answer_input-requires-clause-answer_ends : goal.answer_input-requires-clause-answer_ends
answer_input-requires-clause-answer_ends c = λ f t n u p. written_end _ _ p
