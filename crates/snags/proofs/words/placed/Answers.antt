-- `placed` meets its contract. Assumes nothing.
use Rattle.text.proofs.Writing.{wrote_then}
use Rattle.snags.proofs.words.placed.Goals as goal

pub returns : goal.returns
returns c = wrote_then (wrote_then c.bytes.ensures c.number.ensures) c.bytes-2.ensures
