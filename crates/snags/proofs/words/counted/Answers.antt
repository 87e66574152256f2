-- `counted` meets its contract. Assumes nothing.
use Rattle.text.specs.Words.{word}
use Rattle.text.proofs.Writing.{wrote_then}
use Rattle.snags.proofs.words.counted.Goals as goal

pub returns : goal.returns
unfolding word
returns c = wrote_then (wrote_then (wrote_then (wrote_then c.bytes.ensures c.number.ensures) c.bytes-2.ensures) c.number-2.ensures) c.bytes-3.ensures
