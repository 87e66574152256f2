-- Who waits on a node: what is answered of its IN. Assumes nothing.
use Rattle.std.specs.Prelude.{◌≡◌, List, ℕ, Result, Ok, Err}
use Rattle.nodes.specs.declared.Set.{Set}
use Rattle.nodes.specs.Words.{num}
use Rattle.waits.specs.declared.refusals.Refusal.{Refusal}
use Rattle.waits.specs.Waits.{in_of}
use Rattle.waits.specs.Rows.{waits_of}
use Rattle.deadlock.specs.Refusals.{check_node_of}

-- Of node i: the refusal, or its IN, the nodes whose OUT it is in.
abbrev pub InSays : ℕ → List ℕ → ℕ → Result Set Refusal → Type 0
InSays n rows i (Err r) = check_node_of n rows i ≡ Err r
InSays n rows i (Ok s) = (check_node_of n rows i ≡ Ok tt) × (num s ≡ in_of (waits_of n rows) i)
