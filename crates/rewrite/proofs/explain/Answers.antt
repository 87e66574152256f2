-- What is said stands in its room. Assumes nothing.
use Rattle.text.proofs.Writing.{written_end}
use Rattle.rewrite.proofs.explain.Goals as goal

pub returns : goal.returns
returns c = written_end _ _ c.reasons.ensures
