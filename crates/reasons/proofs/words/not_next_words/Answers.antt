-- `not_next_words` meets its contract. Assumes nothing.
use mathlib.Core.Path.{ap}
use Rattle.text.specs.Words.{word, decimal}
use Rattle.text.proofs.Writing.{wrote_then, wrote_as}
use Rattle.reasons.proofs.words.not_next_words.Goals as goal

pub returns : goal.returns
unfolding word
returns c = wrote_then (wrote_then c.of_line.ensures (wrote_as (ap decimal c.saturating_sub.ensures) c.number.ensures)) c.bytes.ensures
