-- `fault_words` meets its contract. Assumes nothing.
use Rattle.text.specs.Words.{word}
use Rattle.text.proofs.Writing.{wrote_then, wrote_as}
use Rattle.reasons.specs.Reasons.{fault_words}
use Rattle.reasons.proofs.words.fault_words.Goals as goal

pub returns-in-Column : goal.returns-in-Column
unfolding fault_words word
returns-in-Column c =
    rw c.in-Column.is (wrote_then (wrote_then c.of_line-in-Column.ensures (wrote_as c.column_name.ensures c.bytes-in-Column.ensures)) c.flaw_words.ensures)
