-- What deadlocked means, over any graph of waits. Assumes nothing.
use Rattle.std.specs.Prelude.{◌≡◌, Bool, true, not, ◌&&◌, ◌⊎◌, ℕ, ◌<◌}
use mathlib.Core.List.{List, [], ◌∷◌, Memᴰ}
use Rattle.lemmas.specs.Lists.{any_of}
use Rattle.nodes.specs.Sets.{In, has, minus, below, set_of}
use Rattle.waits.specs.Waits.{Waits}

-- A reduction frees nodes one by one, each when its condition holds with the nodes freed before it granting. The list has
-- the newest first, so that those freed before a node stand after it.
abbrev pub Reduction : Waits → List ℕ → Type 0
Reduction w [] = Unit {0}
Reduction w (i ∷ l) = (i < w.nodes) × (w.holds i (set_of l) ≡ true) × Reduction w l

-- A node is deadlocked exactly if no reduction frees it.
abbrev pub Deadlocked : Waits → ℕ → Type 0
Deadlocked w i = (l : List ℕ) → Reduction w l → Memᴰ i l → ⊥

-- every node outside a list
unfoldable pub outside : Waits → List ℕ → ℕ
outside w l = minus (below w.nodes) (set_of l)

-- A list passes for node i exactly if i is in it and no member's condition holds when every node outside the list grants.
unfoldable pub passes : Waits → ℕ → List ℕ → Bool
passes w i l = has (set_of l) i && not (any_of (λ j. w.holds j (outside w l)) l)

-- a path of one or more edges
pub data Path (w : Waits) : ℕ → ℕ → Type 0 where
  edge : {i j : ℕ} → In j (w.out i) → Path w i j
  then : {i j k : ℕ} → In j (w.out i) → Path w j k → Path w i k

-- a node is reachable from itself, and from where a path leads to it
abbrev pub Reachable : Waits → ℕ → ℕ → Type 0
Reachable w i j = (i ≡ j) ⊎ Path w i j
