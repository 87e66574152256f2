-- `good_steps` meets its contract. The loop's invariant: the steps that are left are good if and only if all are. Assumes nothing.
use mathlib.Core.Path.{◌≡◌}
use Prim.Native.Nat.{◌*◌}
use lib.ListN.{drop}
use Rattle.script.specs.Steps.{good_steps}
use Rattle.script.proofs.steps.good_steps.Given as goal

abbrev pub invariant-loop-k : goal.invariant-loop-k
invariant-loop-k l = good_steps (drop (3 * l.k) l.list) ≡ good_steps l.list
