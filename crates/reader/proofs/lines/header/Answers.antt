-- `header` meets its contract. Assumes nothing.
use Rattle.reader.proofs.Rows.{header_says}
use Rattle.text.specs.Words.{word}
use Rattle.reader.proofs.lines.header.Goals as goal

pub returns : goal.returns
unfolding word
returns c = header_says _ _ _ _ _ _ _ _ c.word_at-a.ensures c.word_at-b.ensures c.word_at-c.ensures c.word_at-d.ensures c.word_at-e.ensures c.word_at-f.ensures c.word_at-g.ensures
