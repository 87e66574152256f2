-- How many bytes were moved, at most, and which, where a reader's or a writer's bytes are known. Assumes nothing.
use Rattle.std.specs.Prelude.{ℕ, ◌≤◌, ◌<◌, List, length, take, Option, Result, Ok, Err}
use Rattle.std.specs.declared.io.Error.{Error}
use Rattle.std.specs.Io.KnownBytes.{Consumes, IsAtEnd}

-- no more than there is room for
abbrev pub Within : ℕ → Result ℕ Error → Type 0
Within room (Err e) = Unit {0}
Within room (Ok n) = n ≤ room

-- the bytes that now stand at the room's start were the next that the input had, and it has more only if the room is full; if a read failed,
-- some of them were
abbrev pub Took : Option (List ℕ) → Option (List ℕ) → List ℕ → Result ℕ Error → Type 0
Took old new room (Err e) = (n : ℕ) × Consumes old new (take n room)
Took old new room (Ok n) = Consumes old new (take n room) × (n < length room → IsAtEnd new)
