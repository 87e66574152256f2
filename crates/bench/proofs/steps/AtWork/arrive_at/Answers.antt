-- `arrive_at` meets its contract. Assumes nothing.
use mathlib.Core.Path.{refl}
use Rattle.bench.proofs.Made.{arrive_fits, arrive_joins, arrive_there, arrived_as, from_fits}
use Rattle.bench.proofs.steps.AtWork.arrive_at.Goals as goal

pub own-requires : goal.own-requires
own-requires c = (arrive_there _ _ _ c.requires.0 _ c.requires.1).0

pub record-requires : goal.record-requires
record-requires c = (arrive_there _ _ _ c.requires.0 _ c.requires.1).1

pub receive-did-requires : goal.receive-did-requires
receive-did-requires c = (from_fits _ _ _ c.requires.0 _ c.requires.1, arrive_fits _ _ _ c.requires.0 _ c.requires.1 c.record.ensures)

pub join-requires : goal.join-requires
join-requires c = arrive_joins _ _ _ c.requires.0 _ c.requires.1 (arrived_as _ _ c.receive-did.ensures c.own.ensures c.record.ensures refl)
