-- `line_end` meets its contract. Assumes nothing.
use mathlib.Core.Path.{◌≡◌}
use Prim.Native.Nat.{◌+◌, ◌≤◌}
use lib.ListN.{length, drop}
use Rattle.fields.specs.Ends.{up_to_end}
use Rattle.fields.proofs.ends.line_end.Given as goal

abbrev pub invariant-loop-i : goal.invariant-loop-i
invariant-loop-i l = (l.i ≤ length l.s) × (l.i + up_to_end (drop l.i l.s) ≡ up_to_end l.s)
