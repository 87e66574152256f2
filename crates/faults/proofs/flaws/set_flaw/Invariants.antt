-- `set_flaw` meets its contract. Assumes nothing.
use lib.ListN.{length}
use Rattle.faults.proofs.Walking.{MembersLeft}
use Rattle.faults.proofs.flaws.set_flaw.Given as goal

abbrev pub invariant-loop-piece : goal.invariant-loop-piece
invariant-loop-piece l = MembersLeft l.w l.lowest (length l.yielded)
