-- `in_of` meets its contract. The loop's invariant: the nodes passed that have j in OUT are gathered. Assumes nothing.
use mathlib.Core.Path.{◌≡◌}
use Rattle.nodes.specs.Words.{num}
use Rattle.nodes.specs.Sets.{has, gather}
use Rattle.waits.specs.Rows.{row_at, out_of}
use Rattle.waits.proofs.graph.Graph.in_of.Given as goal

abbrev pub invariant-loop-i : goal.invariant-loop-i
invariant-loop-i l = num l.found ≡ gather (λ k. has (out_of (row_at l.self.rows.now k)) l.j.0) l.i
