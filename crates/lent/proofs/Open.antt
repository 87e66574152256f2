-- The definitions of this crate, and of those below, opened together, for what is computed with them. Assumes nothing.
use Rattle.step.proofs.Open.{open_step}
use Rattle.lent.specs.Kept.{record_numbers, record_at, state_at, put_state}
use Rattle.lent.specs.Coded.{message_of, number_of}
use Rattle.lent.specs.Steps.{step_number, step_of, answer_number}

unfoldable pub open_lent : Unit {0}
unfolding open_step record_numbers record_at state_at put_state message_of number_of step_number step_of answer_number
open_lent = tt
