-- `deliver_at` meets its contract. Assumes nothing.
use Rattle.bench.proofs.Made.{sent_there}
use Rattle.bench.proofs.steps.AtWork.deliver_at.Goals as goal

pub arrive_at-requires : goal.arrive_at-requires
arrive_at-requires c = (c.requires, sent_there _ _ _ c.requires _ c.if-self-k.false c.message_of-m.ensures)
