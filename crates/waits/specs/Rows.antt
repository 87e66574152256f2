-- What rows mean: six numbers a node, its kind, its threshold and four sets. Assumes nothing.
use Rattle.std.specs.Prelude.{Bool, true, false, cond, not, ◌&&◌, List, [], ◌∷◌, ◌++◌, ◌≡◌, ℕ, zero, suc, ◌+◌, ◌*◌, ◌≤◌, leb, eqb, get_or, length}
use Rattle.lemmas.specs.Lists.{any_of}
use Rattle.nodes.specs.Sets.{union, meet, inside, size}
use Rattle.nodes.specs.Words.{places, num}
use Rattle.waits.specs.declared.rows.Row.{Row}
use Rattle.waits.specs.Waits.{Waits}

-- how many numbers a row has
abbrev pub row_size : ℕ
row_size = 6

-- the row of node k
unfoldable pub row_at : List ℕ → ℕ → Row
row_at rows k = record {
  kind = get_or rows (k * row_size) 0;
  threshold = get_or rows (k * row_size + 1) 0;
  first = record { 0 = get_or rows (k * row_size + 2) 0 };
  second = record { 0 = get_or rows (k * row_size + 3) 0 };
  third = record { 0 = get_or rows (k * row_size + 4) 0 };
  fourth = record { 0 = get_or rows (k * row_size + 5) 0 };
}

-- the four sets
abbrev pub sets_of : Row → List ℕ
sets_of r = num r.first ∷ num r.second ∷ num r.third ∷ num r.fourth ∷ []

-- the numbers of a row, in that order, and those of rows one after the other
unfoldable pub row_numbers : Row → List ℕ
row_numbers r = r.kind ∷ r.threshold ∷ sets_of r

unfoldable pub flat : List Row → List ℕ
flat [] = []
flat (r ∷ rs) = row_numbers r ++ flat rs

-- and back: m rows from node k on, and all n
unfoldable pub rows_at : List ℕ → ℕ → ℕ → List Row
rows_at rows k zero = []
rows_at rows k (suc m) = row_at rows k ∷ rows_at rows (suc k) m

unfoldable pub rows_of : ℕ → List ℕ → List Row
rows_of n rows = rows_at rows 0 n

-- the union of all sets but the first; OUT, the union of all
unfoldable pub later_of : Row → ℕ
later_of r = union (num r.second) (union (num r.third) (num r.fourth))

unfoldable pub out_of : Row → ℕ
out_of r = union (num r.first) (later_of r)

-- q has a member, and all its members are in g
unfoldable pub lies_in : ℕ → ℕ → Bool
lies_in q g = not (eqb q 0) && inside q g

-- Whether the condition of a row holds when the nodes of g have granted. Kind 0: always. Kind 1: at least the threshold of
-- the first set have granted. Kind 2: all of at least one nonempty set have granted. No other kind is accepted.
unfoldable pub holds_of : Row → ℕ → Bool
holds_of r g =
    cond (eqb r.kind 0) true
    (cond (eqb r.kind 1) (leb r.threshold (size (meet (num r.first) g)))
    (cond (eqb r.kind 2) (any_of (λ q. lies_in q g) (sets_of r))
    false))

-- the graph of waits that n rows give
abbrev pub waits_of : ℕ → List ℕ → Waits
waits_of n rows = record { nodes = n; out = λ k. out_of (row_at rows k); holds = λ k g. holds_of (row_at rows k) g }

-- no more nodes than a set has places for, and a row for each
abbrev pub Shaped : ℕ → List ℕ → Type 0
Shaped n rows = (n ≤ places) × (length rows ≡ n * row_size)
