-- `coldroom_check_evidence` meets its contract. Assumes nothing.
use mathlib.Core.Path.{sym, ◌∙◌}
use Rattle.coldroom.proofs.Small.{judged_small}
use Rattle.coldroom.proofs.graphs.coldroom_check_evidence.Goals as goal

pub refusal-requires : goal.refusal-requires
refusal-requires c = judged_small _ _ _ _ _ (sym c.check_evidence.ensures ∙ c.in-Err.is)
