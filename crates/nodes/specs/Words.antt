-- The sets, nodes and answers of the code, read as numbers. Assumes nothing.
use Rattle.std.specs.Prelude.{List, [], ◌∷◌, ℕ, Option, Some, None}
use Rattle.nodes.specs.declared.Node.{Node}
use Rattle.nodes.specs.declared.Set.{Set}
use Rattle.nodes.specs.declared.InTurn.{InTurn}
use Rattle.nodes.specs.Sets.{members}

-- how many places a set of the code has: the nodes 0 to places - 1
abbrev pub places : ℕ
places = 64

-- the number that a set of the code is: the crates above know no more of a set
unfoldable pub num : Set → ℕ
num s = s.0

-- and the set of the code that a number is
unfoldable pub as_set : ℕ → Set
as_set n = record { 0 = n }

-- the head of an ascending list of members
abbrev pub first_of : List ℕ → Option Node
first_of [] = None
first_of (k ∷ l) = Some (record { 0 = k })

-- the members that a walk over a set has still to give, ascending
unfoldable pub to_come : InTurn → List ℕ
to_come w = members (num w.left)
