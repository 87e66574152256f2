-- The loop's invariant: the lines that are left make of the lent bytes what all of them make of them as found. Assumes nothing.
use lib.ListN.{drop}
use Rattle.text.proofs.Writing.{Left}
use Rattle.transcript.specs.Transcript.{message_lines}
use Rattle.transcript.proofs.messages.Given as goal

abbrev pub invariant-loop-k : goal.invariant-loop-k
invariant-loop-k l = Left l.fn.out l.out (message_lines l.k (drop l.k l.list)) (message_lines 0 l.list)
