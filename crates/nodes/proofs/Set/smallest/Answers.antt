-- `Set::smallest` meets its contract: the machine's count of the zeros below the lowest digit that is 1. Assumes nothing.
use native.Mathlib.Omega.{arith}
use borrow.Author.Tests.{eqb-true, eq-eqb}
use Rattle.lemmas.proofs.Tests.{not_both}
use Rattle.lemmas.proofs.Cases.{flag}
use Rattle.nodes.specs.Words.{num}
use Rattle.nodes.proofs.First.{first_trailing, first_none}
use Rattle.nodes.proofs.Set.smallest.Goals as goal

pub returns-then-is_empty : goal.returns-then-is_empty
returns-then-is_empty c = first_none _ (eqb-true _ _ (flag c.is_empty.ensures c.if-is_empty.true))

pub returns : goal.returns
unfolding num
returns c = first_trailing 64 _ (omega arith) (λ e. not_both (eq-eqb _ _ e) (flag c.is_empty.ensures c.if-is_empty.false))
