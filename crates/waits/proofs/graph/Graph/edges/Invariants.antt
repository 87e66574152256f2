-- `edges` meets its contract. The loop's invariant: the count is that of the nodes passed, at most 64 each. Assumes nothing.
use mathlib.Core.Path.{◌≡◌}
use Prim.Native.Nat.{◌≤◌, ◌*◌}
use Rattle.nodes.specs.Words.{places}
use Rattle.waits.specs.Graph.{graph_of}
use Rattle.waits.specs.Waits.{edges_to}
use Rattle.waits.proofs.graph.Graph.edges.Given as goal

abbrev pub invariant-loop-k : goal.invariant-loop-k
invariant-loop-k l = (l.count ≡ edges_to (graph_of l.self) l.k) × (l.count ≤ l.k * places)
