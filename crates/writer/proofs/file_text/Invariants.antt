-- The loop's invariant: what is left of the file makes of the lent bytes what all of it makes of them as found. Assumes nothing.
use Rattle.text.proofs.Writing.{Left}
use Rattle.format.specs.Written.{file_of}
use Rattle.writer.proofs.Parts.{rows_left}
use Rattle.writer.proofs.file_text.Given as goal

abbrev pub invariant-loop-k : goal.invariant-loop-k
invariant-loop-k l = Left l.fn.file l.file (rows_left l.graph.nodes l.graph.rows.now l.k) (file_of l.graph.nodes l.graph.rows.now)
