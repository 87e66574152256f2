-- A place in a line stands for the fields that are left from there on. Assumes nothing.
use Rattle.std.specs.Prelude.{cond, List, ℕ, ◌+◌, leb, length, take, drop, Option, Some, None}
use Rattle.std.proofs.Math.Option.{Option as Maybe, none, some}
use Rattle.nodes.specs.declared.Set.{Set}
use Rattle.nodes.specs.Words.{as_set}
use Rattle.format.specs.Cut.{comma}
use Rattle.format.specs.Fields.{bare, number_of, set_in, Fields, next}
use Rattle.fields.specs.Ends.{up_to, pieces_from}
use Rattle.reader.specs.declared.places.At.{At}

-- one past the end no field is left, and further on something was wrong
unfoldable pub left : List ℕ → ℕ → Fields
left line from = cond (leb from (length line + 1)) (some (pieces_from comma line from)) none

-- the field at a place goes up to the next comma, or to the end: it without its quotes, and the place behind it
unfoldable pub field_at : List ℕ → ℕ → At (List ℕ)
field_at line from =
    let long = up_to comma (drop from line) in
    record { value = bare (take long (drop from line)); next = from + long + 1 }

-- the place behind a field, if what is left behind it is known: two past the end once something was wrong
abbrev pub place_for : List ℕ → ℕ → Fields → ℕ
place_for line from none = length line + 2
place_for line from (some others) = (field_at line from).next

-- the place behind the field that `f` reads
unfoldable pub place_after : (List ℕ → Maybe ℕ) → List ℕ → ℕ → ℕ
place_after f line from = place_for line from (next f (left line from)).rest

-- what is answered of a field once it was read: the value and the place behind it, or else zero and two past the end
abbrev pub answered_at : {T : Type 0} → List ℕ → ℕ → (zero : T) → Option T → At T
answered_at line from zero None = record { value = zero; next = length line + 2 }
answered_at line from zero (Some v) = record { value = v; next = (field_at line from).next }

-- the number or the set that the field at a place is, and the place behind it
unfoldable pub number_at : List ℕ → ℕ → At ℕ
number_at line from = record { value = (next number_of (left line from)).value; next = place_after number_of line from }

unfoldable pub set_at : List ℕ → ℕ → At Set
set_at line from = record { value = as_set (next set_in (left line from)).value; next = place_after set_in line from }
