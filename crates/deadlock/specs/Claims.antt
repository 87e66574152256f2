-- Who is deadlocked: what is answered of all claims, and of one. Assumes nothing.
use Rattle.std.specs.Prelude.{◌≡◌, Bool, true, false, ◌↔◌, List, ℕ, ◌<◌, Result, Ok, Err}
use Rattle.nodes.specs.Sets.{In}
use Rattle.nodes.specs.declared.Set.{Set}
use Rattle.nodes.specs.Words.{num}
use Rattle.waits.specs.declared.refusals.Refusal.{Refusal}
use Rattle.waits.specs.Deadlocked.{Deadlocked}
use Rattle.waits.specs.Rows.{waits_of}
use Rattle.waits.specs.Numbers.{check_of}
use Rattle.deadlock.specs.Refusals.{check_node_of}

-- Of a graph: its refusal, or the set of exactly the deadlocked nodes.
abbrev pub FoundSays : ℕ → List ℕ → Result Set Refusal → Type 0
FoundSays n rows (Err r) = check_of n rows ≡ Err r
FoundSays n rows (Ok s) = (check_of n rows ≡ Ok tt) × ((k : ℕ) → In k (num s) ↔ ((k < n) × Deadlocked (waits_of n rows) k))

-- Of node i: the refusal, that no reduction frees it, or that one does.
abbrev pub ClaimSays : ℕ → List ℕ → ℕ → Result Bool Refusal → Type 0
ClaimSays n rows i (Err r) = check_node_of n rows i ≡ Err r
ClaimSays n rows i (Ok true) = (check_node_of n rows i ≡ Ok tt) × Deadlocked (waits_of n rows) i
ClaimSays n rows i (Ok false) = (check_node_of n rows i ≡ Ok tt) × (Deadlocked (waits_of n rows) i → ⊥)
