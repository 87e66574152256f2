-- A graph of waits as the functions hold it: its count of nodes and its rows. Assumes nothing.
use Rattle.std.specs.Prelude.{◌≡◌, List, ℕ, Result, Ok, Err}
use Rattle.waits.specs.declared.refusals.Refusal.{Refusal}
use Rattle.waits.specs.declared.graph.Graph.{Graph}
use Rattle.waits.specs.Waits.{Waits}
use Rattle.waits.specs.Rows.{waits_of}

-- the graph of waits that it gives
abbrev pub graph_of : Graph → Waits
graph_of g = waits_of g.nodes g.rows.now

-- Of these nodes and rows, when a check of them answers so: its refusal, or the graph that has them.
abbrev pub GraphSays : Result Unit Refusal → ℕ → List ℕ → Result Graph Refusal → Type 0
GraphSays answer n rows (Err r) = answer ≡ Err r
GraphSays answer n rows (Ok g) = (answer ≡ Ok tt) × (g.nodes ≡ n) × (g.rows.now ≡ rows)
