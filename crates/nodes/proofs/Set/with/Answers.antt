-- `Set::with` meets its contract. Assumes nothing.
use mathlib.Core.Path.{ap}
use lib.Bits.{bit_or}
use Rattle.nodes.specs.Sets.{union, single, with}
use Rattle.nodes.specs.Words.{num}
use Rattle.nodes.proofs.Operations.{shl_one}
use Rattle.nodes.proofs.Set.with.Goals as goal

pub returns : goal.returns
unfolding with union single num
returns c = ap (bit_or c.args.self.0) (shl_one 64 c.args.k.0 c.requires)
