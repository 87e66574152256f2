-- The definitions of this crate, and of those below, opened together, for what is computed with them. Assumes nothing.
use Rattle.deadlock.proofs.Open.{open_deadlock}
use Rattle.step.proofs.Open.{open_step}
use Rattle.rounds.specs.Course.{put, after}
use Rattle.rounds.specs.Verdicts.{verdicts}
use Rattle.rounds.specs.Ends.{called_in, free_in, held_in, leaving, entering}
use Rattle.rounds.specs.History.{since, verdicts_of}

unfoldable pub open_rounds : Unit {0}
unfolding open_deadlock open_step put after verdicts called_in free_in held_in leaving entering since verdicts_of
open_rounds = tt
