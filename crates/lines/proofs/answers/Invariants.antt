-- The loop's invariant: the lines that are left make of the lent bytes what all of them make of them as found. Assumes nothing.
use lib.ListN.{drop}
use Rattle.text.proofs.Writing.{Left}
use Rattle.lines.specs.Lines.{answer_lines}
use Rattle.lines.proofs.answers.Given as goal

abbrev pub invariant-loop-x : goal.invariant-loop-x
invariant-loop-x l = Left l.initial.out l.out (answer_lines (drop l.x-index l.list)) (answer_lines l.list)
