-- What the functions answer of a piece: the number or the set that it is. Assumes nothing.
use Rattle.std.specs.Prelude.{cond, ◌&&◌, ℕ, leb, ltb, Option, Some, None}
use Rattle.std.proofs.Math.Option.{Option as Maybe, none, some}
use Rattle.nodes.specs.declared.Set.{Set}
use Rattle.nodes.specs.Words.{places, as_set}

-- the code's own option of a number
unfoldable pub numbered : Maybe ℕ → Option ℕ
numbered none = None
numbered (some n) = Some n

-- a member that may come next: no lower than the lowest, and a set has a place for it
unfoldable pub member_of : (lowest : ℕ) → Maybe ℕ → Option ℕ
member_of lowest none = None
member_of lowest (some m) = cond (leb lowest m && ltb m places) (Some m) None

unfoldable pub gathered : Maybe ℕ → Option Set
gathered none = None
gathered (some s) = Some (as_set s)
