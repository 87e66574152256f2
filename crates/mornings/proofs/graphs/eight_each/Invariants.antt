-- Assumes nothing.
use Rattle.std.specs.Prelude.{length, ◌≡◌}
use Rattle.mornings.proofs.graphs.eight_each.Given as goal

abbrev pub invariant-loop-k : goal.invariant-loop-k
invariant-loop-k l = length l.rows ≡ 384
