-- `number_flaw` meets its contract. Assumes nothing.
use Rattle.lemmas.proofs.Cases.{flag}
use Rattle.faults.proofs.Judging.{number_empty, number_strange, number_past, number_fine}
use Rattle.faults.proofs.flaws.number_flaw.Goals as goal

pub returns-then-is_empty : goal.returns-then-is_empty
returns-then-is_empty c = number_empty _ (flag c.is_empty.ensures c.if-is_empty.true)

pub returns-then-strange_in : goal.returns-then-strange_in
returns-then-strange_in c = number_strange _ (flag c.is_empty.ensures c.if-is_empty.false) (flag c.strange_in.ensures c.if-strange_in.true)

pub returns-in-None : goal.returns-in-None
returns-in-None c = number_past _ (flag c.is_empty.ensures c.if-is_empty.false) (flag c.strange_in.ensures c.if-strange_in.false) c.in-None.ensures

pub returns-in-Some : goal.returns-in-Some
returns-in-Some c = number_fine _ (flag c.is_empty.ensures c.if-is_empty.false) (flag c.strange_in.ensures c.if-strange_in.false) c.in-Some.ensures
