-- `graph_reason` meets its contract. Assumes nothing.
use Rattle.text.specs.Words.{word}
use Rattle.text.proofs.Writing.{wrote_then, wrote_as}
use Rattle.reasons.specs.Reasons.{graph_reason}
use Rattle.reasons.proofs.graph_reason.Goals as goal

pub returns : goal.returns
unfolding graph_reason word
returns c = wrote_then (wrote_then c.place_words.ensures (wrote_as c.number_words.ensures c.bytes.ensures)) c.put.ensures
