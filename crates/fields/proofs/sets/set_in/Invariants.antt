-- `set_in` meets its contract. Assumes nothing.
use lib.ListN.{length}
use Rattle.fields.proofs.Gathering.{Gathering}
use Rattle.fields.proofs.sets.set_in.Given as goal

abbrev pub invariant-loop-piece : goal.invariant-loop-piece
invariant-loop-piece l = Gathering l.w l.s l.lowest (length l.yielded)
