-- `ascends` meets its contract. Assumes nothing.
use lib.Dec.{ltb}
use Rattle.std.proofs.Common.{rules, tests}
use Rattle.std.proofs.lemmas.List.Sorted.{answers_always}
use Rattle.deadlock.proofs.Cases.{each_below_next}
use Rattle.deadlock.proofs.refusals.ascends.Goals as goal

pub returns : goal.returns
returns c = each_below_next _ _ (c.is_sorted_by.ensures.cases ltb (answers_always _ _ _ (λ f a r g k. search (rules, tests))))
