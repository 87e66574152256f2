-- `step_snag` meets its contract. The loop's invariant: the steps from here on, numbered on, have the snag that all have. Assumes nothing.
use mathlib.Core.Path.{◌≡◌}
use Prim.Native.Nat.{◌*◌}
use lib.ListN.{drop}
use Rattle.snags.specs.Snags.{step_snag}
use Rattle.snags.proofs.finding.step_snag.Given as goal

abbrev pub invariant-loop-j : goal.invariant-loop-j
invariant-loop-j l = step_snag l.j (drop (3 * l.j) l.list) ≡ step_snag 0 l.list
