-- `flaw_words` meets its contract. Assumes nothing.
use Rattle.text.specs.Words.{word}
use Rattle.text.proofs.Writing.{wrote_then}
use Rattle.reasons.specs.Reasons.{flaw_words}
use Rattle.reasons.proofs.words.flaw_words.Goals as goal

pub returns-in-NoPlace : goal.returns-in-NoPlace
unfolding flaw_words word
returns-in-NoPlace c = rw c.in-NoPlace.is (wrote_then c.bytes-in-NoPlace.ensures c.number.ensures)
