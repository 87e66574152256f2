-- A graph of waits, abstractly: all that the layers above know of it. Assumes nothing.
use Rattle.std.specs.Prelude.{◌≡◌, Bool, true, false, ℕ, zero, suc, ◌+◌, ◌<◌}
use Rattle.nodes.specs.Sets.{bit, In, Inside, has, size, gather}

-- The nodes are those below `nodes`. `out i` is OUT of i, the set of the nodes that it waits on; `holds i g` says whether
-- its condition holds when the nodes of the set g have granted.
pub record Waits : Type 0 where
  pub nodes : ℕ
  pub out : ℕ → ℕ
  pub holds : ℕ → ℕ → Bool

-- What is known of it. Closed: nodes wait only on nodes. Monotone: more grants never unmeet a condition. Local: a condition
-- reads only the members of OUT. An active node, whose condition holds with nobody granting, waits on nobody; any other
-- waits on somebody.
pub record Lawful (w : Waits) : Type 0 where
  pub closed : (i j : ℕ) → i < w.nodes → In j (w.out i) → j < w.nodes
  pub monotone : (i g h : ℕ) → i < w.nodes → Inside g h → w.holds i g ≡ true → w.holds i h ≡ true
  pub local : (i g h : ℕ) → i < w.nodes → ((j : ℕ) → In j (w.out i) → bit g j ≡ bit h j) → w.holds i g ≡ w.holds i h
  pub active : (i : ℕ) → i < w.nodes → w.holds i 0 ≡ true → w.out i ≡ 0
  pub waiting : (i : ℕ) → i < w.nodes → w.holds i 0 ≡ false → w.out i ≡ 0 → ⊥

-- IN of a node: every node that has it in OUT
unfoldable pub in_of : Waits → ℕ → ℕ
in_of w j = gather (λ i. has (w.out i) j) w.nodes

-- the edges that leave the nodes below k: the members of their OUT
unfoldable pub edges_to : Waits → ℕ → ℕ
edges_to w zero = 0
edges_to w (suc k) = edges_to w k + size (w.out k)

-- all edges
unfoldable pub edges : Waits → ℕ
edges w = edges_to w w.nodes
