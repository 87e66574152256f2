-- `refused` meets its contract. Assumes nothing.
use Rattle.text.specs.Words.{word}
use Rattle.text.proofs.Writing.{wrote_then}
use Rattle.lines.specs.Lines.{refused_line}
use Rattle.lines.proofs.refused.Goals as goal

pub returns : goal.returns
unfolding refused_line word
returns c = wrote_then (wrote_then (wrote_then c.bytes.ensures c.field.ensures) c.field-2.ensures) c.put.ensures
