-- A text cut into pieces, and pieces put together to a text. Assumes nothing.
use Rattle.std.specs.Prelude.{Bool, cond, ◌&&◌, List, [], ◌∷◌, ◌++◌, ℕ, eqb}

-- the bytes that mean something between fields, between members and around a field
abbrev pub space : ℕ
space = 32

abbrev pub quote : ℕ
quote = 34

abbrev pub comma : ℕ
comma = 44

-- CR and then LF end a line; neither does alone
abbrev pub cr : ℕ
cr = 13

abbrev pub lf : ℕ
lf = 10

unfoldable pub line_end : ℕ → ℕ → Bool
line_end x y = eqb x cr && eqb y lf

-- a byte in front of the first piece
abbrev pub onto : ℕ → List (List ℕ) → List (List ℕ)
onto x [] = (x ∷ []) ∷ []
onto x (p ∷ ps) = (x ∷ p) ∷ ps

-- a text cut at each b: it has one piece more than there are of b
unfoldable pub pieces : ℕ → List ℕ → List (List ℕ)
pieces b [] = [] ∷ []
pieces b (x ∷ l) = cond (eqb x b) ([] ∷ pieces b l) (onto x (pieces b l))

-- a text cut into lines, without their ends; the last line may lack its end, and behind an end with no byte after it is no line
unfoldable pub lines_of : List ℕ → List (List ℕ)
lines_of [] = []
lines_of (x ∷ []) = (x ∷ []) ∷ []
lines_of (x ∷ y ∷ l) = cond (line_end x y) ([] ∷ lines_of l) (onto x (lines_of (y ∷ l)))

-- ---- and back

-- pieces that follow others, each behind a b; pieces with a b between two
unfoldable pub behind : ℕ → List (List ℕ) → List ℕ
behind b [] = []
behind b (p ∷ ps) = b ∷ p ++ behind b ps

unfoldable pub joined : ℕ → List (List ℕ) → List ℕ
joined b [] = []
joined b (p ∷ ps) = p ++ behind b ps

-- lines, each with its end
unfoldable pub ended : List (List ℕ) → List ℕ
ended [] = []
ended (l ∷ ls) = l ++ cr ∷ lf ∷ ended ls
