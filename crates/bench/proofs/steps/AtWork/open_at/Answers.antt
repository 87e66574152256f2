-- `open_at` meets its contract. Assumes nothing.
use Rattle.step.proofs.Said.{opened_as}
use Rattle.bench.proofs.Made.{open_joins}
use Rattle.lemmas.proofs.Cases.{flag}
use Rattle.bench.proofs.steps.AtWork.open_at.Goals as goal

pub join-requires : goal.join-requires
join-requires c = open_joins _ _ _ c.requires _ _ c.if-self-i.false (flag c.cannot_open.ensures c.if-cannot_open.false) (opened_as _ c.open_round-did.ensures c.own.ensures)
