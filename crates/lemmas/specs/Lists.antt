-- Lists and the numbers below one: a test of some of them, those that meet one, a sum, what it means to ascend and to have
-- nothing twice. Assumes nothing.
use Rattle.std.specs.Prelude.{Bool, true, false, cond, ◌&&◌, ◌||◌, ℕ, zero, suc, ◌+◌, ◌<◌, ltb}
use mathlib.Core.List.{List, [], ◌∷◌, Memᴰ}

-- some number of the list meets the test
abbrev pub any_of : (ℕ → Bool) → List ℕ → Bool
any_of p [] = false
any_of p (a ∷ l) = p a || any_of p l

-- some number below n meets the test
abbrev pub any_below : (ℕ → Bool) → ℕ → Bool
any_below p zero = false
any_below p (suc n) = any_below p n || p n

-- those of the list that meet the test, in their order
abbrev pub those : {A : Type 0} → (A → Bool) → List A → List A
those p [] = []
those p (a ∷ l) = cond (p a) (a ∷ those p l) (those p l)

-- the sum of f over the list
abbrev pub total : {A : Type 0} → (A → ℕ) → List A → ℕ
total f [] = 0
total f (a ∷ l) = f a + total f l

-- each number is below all that follow it, so none stands twice
abbrev pub Ascending : List ℕ → Type 0
Ascending [] = Unit {0}
Ascending (a ∷ l) = ((b : ℕ) → Memᴰ b l → a < b) × Ascending l

-- the same as a test: each is below the next
abbrev pub ascending : List ℕ → Bool
ascending [] = true
ascending (a ∷ []) = true
ascending (a ∷ b ∷ l) = ltb a b && ascending (b ∷ l)

-- nothing stands in the list twice
abbrev pub Once : {A : Type 0} → List A → Type 0
Once [] = Unit {0}
Once (a ∷ l) = (Memᴰ a l → ⊥) × Once l
