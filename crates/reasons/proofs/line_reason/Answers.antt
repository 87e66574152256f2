-- `line_reason` meets its contract. Assumes nothing.
use mathlib.Core.Path.{ap}
use Rattle.text.specs.Words.{word}
use Rattle.text.proofs.Writing.{wrote_then, wrote_as}
use Rattle.reasons.specs.Reasons.{fault_words, line_reason}
use Rattle.reasons.proofs.line_reason.Goals as goal

pub returns : goal.returns
unfolding line_reason word
returns c = wrote_then (wrote_as (ap (fault_words _) c.fault_of.ensures) c.fault_words.ensures) c.put.ensures
