-- `write` meets its contract. The loop's invariant: the members passed stand in front, and the rest is as found. Assumes nothing.
use Rattle.nodes.specs.Words.{num, to_come}
use Rattle.deadlock.proofs.Writing.{Wrote}
use Rattle.deadlock.proofs.evidence.write.Given as goal

abbrev pub invariant-loop-k : goal.invariant-loop-k
invariant-loop-k l = Wrote (num l.fn.s) l.at l.initial.room l.room (to_come l.k-iterator)
