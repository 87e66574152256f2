-- `strange_messages` meets its contract. Assumes nothing.
use Rattle.bench.specs.Strange.{strange_message_on}
use Rattle.lemmas.proofs.Any.{AnyLeft}
use Rattle.lent.specs.Coded.{message_of}
use Rattle.bench.proofs.checks.strange_messages.Given as goal

abbrev pub invariant-loop-x : goal.invariant-loop-x
invariant-loop-x l = AnyLeft (λ x. strange_message_on l.nodes l.highest.0 (message_of x)) l.sent l.x-index
