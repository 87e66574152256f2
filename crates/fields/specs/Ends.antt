-- How far a piece of a text goes. That the pieces of a cut text end there is shown in proofs/. Assumes nothing.
use Rattle.std.specs.Prelude.{cond, List, [], ◌∷◌, ℕ, suc, leb, eqb, length, drop}
use Rattle.format.specs.Cut.{line_end, pieces}

-- how many bytes stand before the first b, or in all
unfoldable pub up_to : ℕ → List ℕ → ℕ
up_to b [] = 0
up_to b (x ∷ l) = cond (eqb x b) 0 (suc (up_to b l))

-- how many bytes stand before the first CR LF, or in all
unfoldable pub up_to_end : List ℕ → ℕ
up_to_end [] = 0
up_to_end (x ∷ []) = 1
up_to_end (x ∷ y ∷ l) = cond (line_end x y) 0 (suc (up_to_end (y ∷ l)))

-- the pieces from a place on: behind the last byte there is still one, and none past that
unfoldable pub pieces_from : ℕ → List ℕ → ℕ → List (List ℕ)
pieces_from b l from = cond (leb from (length l)) (pieces b (drop from l)) []
