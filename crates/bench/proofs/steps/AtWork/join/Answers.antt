-- `join` meets its contract. Assumes nothing.
use Rattle.bench.proofs.Made.{has_room, join_fits, join_over}
use Rattle.bench.proofs.steps.AtWork.join.Goals as goal

pub returns-then-room-self-clause-joined : goal.returns-then-room-self-clause-joined
returns-then-room-self-clause-joined c = join_over _ _ _ _ c.room.ensures c.total.ensures.0 c.if-room-self.true c.refuse.ensures

pub send-self-requires : goal.send-self-requires
send-self-requires c = (has_room _ _ _ c.room.ensures c.total.ensures.0 c.if-room-self.false, c.requires.4, c.requires.1, c.requires.3)

pub returns-clause-joined : goal.returns-clause-joined
returns-clause-joined c = join_fits _ _ _ _ c.room.ensures c.total.ensures.0 c.if-room-self.false c.put_record.ensures c.send-self.ensures
