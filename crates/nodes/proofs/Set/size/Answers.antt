-- `Set::size` meets its contract: the machine's count of the digits that are 1. Assumes nothing.
use native.Mathlib.Omega.{arith}
use lib.Count.{ones-le}
use Rattle.nodes.specs.Words.{num}
use Rattle.nodes.proofs.Size.{size_ones}
use Rattle.nodes.proofs.Set.size.Goals as goal

pub returns : goal.returns
unfolding num
returns c = (size_ones _, ones-le 64 _ (omega arith))
