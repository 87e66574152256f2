-- `write_evidence` meets its contract. Assumes nothing.
use Rattle.deadlock.proofs.Answers.{room_fits, room_written}
use Rattle.deadlock.proofs.evidence.write_evidence.Goals as goal

pub write-requires : goal.write-requires
write-requires c = let e = c.in_ok-graph.ensures in room_fits _ _ _ _ _ e.0 (rw (e.1, e.2) at c.knot.ensures)

pub returns : goal.returns
returns c = let e = c.in_ok-graph.ensures in room_written _ _ _ _ _ _ _ e.0 (rw (e.1, e.2) at c.knot.ensures) c.write.ensures
