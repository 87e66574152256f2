-- The ring report: where a deadlocked claim stands. Assumes nothing.
use Rattle.std.specs.Prelude.{◌≡◌, List, ℕ, Result, Ok, Err}
use Rattle.waits.specs.declared.refusals.Refusal.{Refusal}
use Rattle.waits.specs.Waits.{Waits}
use Rattle.waits.specs.Deadlocked.{Deadlocked, Path}
use Rattle.waits.specs.Deadlocked.Path.{edge, then}
use Rattle.waits.specs.Rows.{waits_of}
use Rattle.deadlock.specs.declared.ring.Report.{Report}
use Rattle.deadlock.specs.declared.ring.Report.TheVariants.{InRing, BehindRing, NotDeadlocked}
use Rattle.deadlock.specs.Refusals.{check_node_of}

-- every node of a path, its ends included, has a property
abbrev pub Through : {w : Waits} → (ℕ → Type 0) → {i j : ℕ} → Path w i j → Type 0
Through P {i} {j} (edge e) = P i × P j
Through P {i} (then e p) = P i × Through P p

-- a path of one or more edges leads from i to j through deadlocked nodes only
abbrev pub LeadsTo : Waits → ℕ → ℕ → Type 0
LeadsTo w i j = (p : Path w i j) × Through (Deadlocked w) p

-- one leads from the node back to itself
abbrev pub OnRing : Waits → ℕ → Type 0
OnRing w i = LeadsTo w i i

-- Of node i: the refusal; that it is deadlocked and in the ring, or deadlocked and behind the ring; or not deadlocked.
abbrev pub ReportSays : ℕ → List ℕ → ℕ → Result Report Refusal → Type 0
ReportSays n rows i (Err r) = check_node_of n rows i ≡ Err r
ReportSays n rows i (Ok InRing) = (check_node_of n rows i ≡ Ok tt) × Deadlocked (waits_of n rows) i × OnRing (waits_of n rows) i
ReportSays n rows i (Ok BehindRing) = (check_node_of n rows i ≡ Ok tt) × Deadlocked (waits_of n rows) i × (OnRing (waits_of n rows) i → ⊥)
ReportSays n rows i (Ok NotDeadlocked) = (check_node_of n rows i ≡ Ok tt) × (Deadlocked (waits_of n rows) i → ⊥)
