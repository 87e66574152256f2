-- `Set::split_first` meets its contract. Assumes nothing.
use mathlib.Core.Path.{sym, ◌∙◌}
use native.Mathlib.Omega.{arith}
use Rattle.nodes.specs.Words.{num, places}
use Rattle.nodes.proofs.First.{first_place, first_rest}
use Rattle.nodes.proofs.Set.split_first.Goals as goal

pub with-requires : goal.with-requires
unfolding num
with-requires c = first_place _ _ (sym c.in_ok-k.was ∙ c.smallest.ensures) places (omega arith)

pub returns : goal.returns
returns c = first_rest _ _ (sym c.in_ok-k.was ∙ c.smallest.ensures) c.minus.ensures c.with.ensures c.empty.ensures
