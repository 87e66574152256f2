-- The definitions of this crate, and of those below, opened together, for what is computed with them. Assumes nothing.
use Rattle.waits.proofs.Open.{open_waits}
use Rattle.deadlock.specs.Refusals.{strange_entry, not_ascending, small_room, check_node_of, check_list_of, check_room_of}
use Rattle.deadlock.specs.Evidence.{judgement, judged_of}
use Rattle.deadlock.specs.Sweeps.{sweep, sweeps, freeing, freed, stuck, reaching, ahead_within, ahead, knot}

unfoldable pub open_deadlock : Unit {0}
unfolding open_waits strange_entry not_ascending small_room check_node_of check_list_of check_room_of judgement judged_of sweep sweeps freeing freed stuck reaching ahead_within ahead knot
open_deadlock = tt
