-- `sweep` meets its contract. The loop's invariant: the nodes passed were visited in turn. Assumes nothing.
use mathlib.Core.Path.{◌≡◌}
use Rattle.nodes.specs.Words.{num}
use Rattle.waits.specs.Graph.{graph_of}
use Rattle.deadlock.specs.Sweeps.{sweep as sweep_of}
use Rattle.deadlock.proofs.visits.sweep.Given as goal

abbrev pub invariant-loop-k : goal.invariant-loop-k
invariant-loop-k g l = num l.g ≡ sweep_of (g.V.Visit.by l.by (graph_of l.graph)) l.k (num l.initial.g)
