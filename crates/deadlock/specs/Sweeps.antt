-- Sets that are computed by visiting every node in turn, over and over, until nothing is new: what the inner functions
-- promise. That these are the sets of which the public promises speak is shown in proofs/. Assumes nothing.
use Rattle.std.specs.Prelude.{cond, ℕ, zero, suc}
use Rattle.nodes.specs.Sets.{has, union, meet, minus, with, below, keep}
use Rattle.waits.specs.Waits.{Waits}

-- the nodes below k visited in turn
unfoldable pub sweep : (ℕ → ℕ → ℕ) → ℕ → ℕ → ℕ
sweep visit zero g = g
sweep visit (suc k) g = visit k (sweep visit k g)

-- t sweeps over n nodes
unfoldable pub sweeps : (ℕ → ℕ → ℕ) → ℕ → ℕ → ℕ → ℕ
sweeps visit n zero g = g
sweeps visit n (suc t) g = sweep visit n (sweeps visit n t g)

-- a node joins the freed ones if its condition holds with them granting
unfoldable pub freeing : Waits → ℕ → ℕ → ℕ
freeing w k g = keep (w.holds k g) k g

-- the nodes that some reduction frees, and the others
unfoldable pub freed : Waits → ℕ
freed w = sweeps (freeing w) w.nodes w.nodes 0

unfoldable pub stuck : Waits → ℕ
stuck w = minus (below w.nodes) (freed w)

-- those that a node waits on, within s, join the reached ones if it is one of them
unfoldable pub reaching : Waits → ℕ → ℕ → ℕ → ℕ
reaching w s k g = cond (has g k) (union g (meet s (w.out k))) g

-- the nodes to which a path leads from i, all of whose nodes after i are in s
unfoldable pub ahead_within : Waits → ℕ → ℕ → ℕ
ahead_within w s i = sweeps (reaching w s) w.nodes w.nodes (meet s (w.out i))

-- the nodes to which any path leads from i
unfoldable pub ahead : Waits → ℕ → ℕ
ahead w i = ahead_within w (below w.nodes) i

-- the evidence for i as a set: the stuck nodes reachable from i, and nobody if i isn't stuck
unfoldable pub knot : Waits → ℕ → ℕ
knot w i = cond (has (stuck w) i) (meet (stuck w) (with (ahead w i) i)) 0
