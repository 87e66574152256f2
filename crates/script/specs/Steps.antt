-- Steps: three numbers each in a script, one each in a list of steps. Assumes nothing.
use Rattle.std.specs.Prelude.{Bool, true, ◌&&◌, List, [], ◌∷◌, ℕ, ◌^◌, ltb}
use Rattle.lent.specs.Steps.{step_number}

-- a kind and two numbers that one number can hold
unfoldable pub good_step : (kind a b : ℕ) → Bool
good_step kind a b = ltb kind (2 ^ 16) && (ltb a (2 ^ 24) && ltb b (2 ^ 24))

-- all steps that stand in a list one after the other; fewer than three numbers are no step
unfoldable pub good_steps : List ℕ → Bool
good_steps [] = true
good_steps (kind ∷ []) = true
good_steps (kind ∷ a ∷ []) = true
good_steps (kind ∷ a ∷ b ∷ l) = good_step kind a b && good_steps l

unfoldable pub steps_of : List ℕ → List ℕ
steps_of [] = []
steps_of (kind ∷ []) = []
steps_of (kind ∷ a ∷ []) = []
steps_of (kind ∷ a ∷ b ∷ l) = step_number kind a b ∷ steps_of l
