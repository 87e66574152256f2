-- What a script is. Assumes nothing.
use Rattle.std.specs.Prelude.{◌≡◌, cond, ◌&&◌, List, [], ◌∷◌, ℕ, ◌+◌, ◌*◌, leb, eqb, length, take, drop, Option, Some, None}
use Rattle.std.proofs.lemmas.List.Edits.{sets}
use Rattle.script.specs.declared.script.Shape.{Shape}
use Rattle.script.specs.Numbers.{numbers_of}
use Rattle.script.specs.Steps.{good_steps, steps_of}

-- at most this many row numbers, this much room and this many steps
abbrev pub most : ℕ
most = 8192

-- so a script has at most this many numbers: 32,772
abbrev pub most_numbers : ℕ
most_numbers = 4 + most + 3 * most

-- and at most this many bytes
abbrev pub longest : ℕ
longest = 1048576

pub record Script : Type 0 where
  pub nodes : ℕ
  pub rows : List ℕ
  pub room : ℕ
  pub steps : List ℕ

pub data Meant : Type 0 where
  NoScript : Meant
  IsScript : Script → Meant

-- after the row numbers, of which there are c: the room, how many steps there are, and three numbers for each, no more
unfoldable pub with_rows : (nodes c : ℕ) → List ℕ → List ℕ → Meant
with_rows nodes c rows [] = NoScript
with_rows nodes c rows (room ∷ []) = NoScript
with_rows nodes c rows (room ∷ s ∷ l) =
    cond (leb c most && (leb room most && (leb s most && (eqb (length l) (3 * s) && good_steps l))))
    (IsScript (record { nodes = nodes; rows = rows; room = room; steps = steps_of l }))
    NoScript

-- the node count, how many row numbers there are, and these
unfoldable pub script_of : List ℕ → Meant
script_of [] = NoScript
script_of (nodes ∷ []) = NoScript
script_of (nodes ∷ c ∷ l) = with_rows nodes c (take c l) (drop c l)

-- what bytes mean: few enough, and nothing but numbers
unfoldable pub meant_by : List ℕ → Meant
meant_by bytes = cond (leb (length bytes) longest && (numbers_of bytes).good) (script_of (numbers_of bytes).numbers) NoScript

-- ---- what the parser says of it: how many rows and steps there are; they stand in the lent lists
abbrev pub shape_of : Meant → Option Shape
shape_of NoScript = None
shape_of (IsScript s) =
    Some (record { nodes = s.nodes; rows = length s.rows; room = s.room; steps = length s.steps })

abbrev pub steps_in : Meant → List ℕ
steps_in NoScript = []
steps_in (IsScript s) = s.steps

-- the numbers that are read; too many bytes are not read at all
unfoldable pub numbers_read : List ℕ → List ℕ
numbers_read bytes = cond (leb (length bytes) longest) (numbers_of bytes).numbers []

-- of a script's numbers, the list of steps as found and as left, and the answer
pub record CodeSays (numbers found left : List ℕ) (r : Option Shape) : Type 0 where
  pub answer : r ≡ shape_of (script_of numbers)
  pub coded : left ≡ sets found 0 (steps_in (script_of numbers))

-- of a script's bytes, the two lists as found and as left, and the answer
pub record ParseSays (bytes numbers steps numbers' steps' : List ℕ) (r : Option Shape) : Type 0 where
  pub answer : r ≡ shape_of (meant_by bytes)
  pub read : numbers' ≡ sets numbers 0 (numbers_read bytes)
  pub coded : steps' ≡ sets steps 0 (steps_in (meant_by bytes))
