-- `Set::below` meets its contract: 2 ^ n - 1, where the shift at n = 64 would be too long. Assumes nothing.
use mathlib.Core.Path.{sym, ap}
use Prim.Native.Nat.{ℕ, ◌<◌, ◌-◌}
use native.Mathlib.Omega.{arith}
use Rattle.nodes.specs.Sets.{below}
use Rattle.nodes.specs.Words.{num}
use Rattle.nodes.proofs.Operations.{shl_one}
use Rattle.nodes.proofs.Set.below.Goals as goal

pub returns-then-n-eq-PLACES : goal.returns-then-n-eq-PLACES
unfolding below num
returns-then-n-eq-PLACES c = sym (ap below c.if-n-eq-PLACES.true)

pub returns : goal.returns
unfolding below num
returns c = let h : c.args.n < 64 = omega arith in ap (λ (x : ℕ). x - 1) (shl_one 64 c.args.n h)
