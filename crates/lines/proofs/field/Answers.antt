-- `field` meets its contract. Assumes nothing.
use Rattle.text.specs.Words.{word}
use Rattle.text.proofs.Writing.{wrote_then}
use Rattle.lines.specs.Lines.{field}
use Rattle.lines.proofs.field.Goals as goal

pub returns : goal.returns
unfolding field word
returns c = wrote_then c.put.ensures c.number.ensures
