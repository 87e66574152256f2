-- What a controller sees. Assumes nothing.
use mathlib.Core.Path.{◌≡◌}
use mathlib.Core.List.{List}
use Prim.Native.Nat.{ℕ}
use Rattle.waits.specs.Waits.{in_of}
use Rattle.waits.specs.Rows.{row_at, waits_of}
use Rattle.step.specs.Step.{seen_in}
use Rattle.step.proofs.Said.{seen_as}
use Rattle.node.specs.Calls.{own}

-- Theorem: told its row and its IN of a graph, a controller sees what the graph's node sees, of which the rounds' theorems speak.
pub own_seen : (n me : ℕ) (row : List ℕ) (ins : ℕ) (rows : List ℕ) → row_at row 0 ≡ row_at rows me → ins ≡ in_of (waits_of n rows) me
    → own me row ins ≡ seen_in (waits_of n rows) me
own_seen n me row ins rows e f = seen_as me e f
