-- `settle` meets its contract. The loop's invariant: so many sweeps were made; one that adds nobody is the last that is needed. Assumes nothing.
use mathlib.Core.Path.{◌≡◌}
use Rattle.nodes.specs.Words.{num}
use Rattle.waits.specs.Graph.{graph_of}
use Rattle.deadlock.specs.Sweeps.{sweeps}
use Rattle.deadlock.proofs.visits.settle.Given as goal

abbrev pub invariant-loop : goal.invariant-loop
invariant-loop g l = num l.g ≡ sweeps (g.V.Visit.by l.by (graph_of l.graph)) l.graph.nodes l.counter (num l.initial.g)
