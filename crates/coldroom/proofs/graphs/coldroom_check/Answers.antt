-- `coldroom_check` meets its contract. Assumes nothing.
use mathlib.Core.Path.{sym, ◌∙◌}
use Rattle.waits.proofs.Small.{check_small}
use Rattle.coldroom.proofs.graphs.coldroom_check.Goals as goal

pub refusal-requires : goal.refusal-requires
refusal-requires c = check_small _ _ _ (sym c.check.ensures ∙ c.in-Err.is)
