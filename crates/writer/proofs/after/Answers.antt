-- `after` meets its contract. Assumes nothing.
use Rattle.text.proofs.Writing.{wrote_then}
use Rattle.writer.proofs.after.Goals as goal

pub returns : goal.returns
returns c = wrote_then c.put.ensures c.number.ensures
