-- `answer` meets its contract. Assumes nothing.
use Rattle.text.specs.Words.{word}
use Rattle.text.proofs.Writing.{wrote_then}
use Rattle.lines.specs.Lines.{answer_line}
use Rattle.lines.proofs.answer.Goals as goal

pub returns : goal.returns
unfolding answer_line word
returns c = wrote_then (wrote_then c.name.ensures c.field.ensures) c.put.ensures
