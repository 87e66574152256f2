-- What a text of decimal numbers says. Assumes nothing.
use Rattle.std.specs.Prelude.{◌≡◌, Bool, true, false, cond, ◌&&◌, ◌||◌, List, [], ◌∷◌, ◌++◌, ℕ, ◌+◌, leb, eqb, length, Option, Some, None}
use Rattle.std.proofs.lemmas.List.Edits.{sets}
use Rattle.text.specs.Digits.{grown}

-- space, tab, LF, CR
unfoldable pub blank : ℕ → Bool
blank b = eqb b 32 || (eqb b 9 || (eqb b 10 || eqb b 13))

-- A reader is between two numbers, or within one: its value so far.
abbrev pub so_far : Option ℕ → ℕ
so_far None = 0
so_far (Some v) = v

-- within a number, if it goes on; else nowhere
abbrev pub going : Option ℕ → Option (Option ℕ)
going None = None
going (Some v) = Some (Some v)

-- where a reader is one byte further: a blank ends a number, and a digit makes it go on
unfoldable pub place_after : Option ℕ → ℕ → Option (Option ℕ)
place_after p b = cond (blank b) (Some None) (going (grown (so_far p) b))

-- What a text says: the numbers that end before anything strange comes, and whether nothing strange comes.
pub record Said : Type 0 where
  pub numbers : List ℕ
  pub good : Bool

abbrev pub said : List ℕ → Bool → Said
said numbers good = record { numbers = numbers; good = good }

-- the number that a reader is within, if it is within one
abbrev pub ending : Option ℕ → List ℕ
ending None = []
ending (Some v) = v ∷ []

-- that number ends, and then the rest says what it says
abbrev pub ended : Option ℕ → Said → Said
ended p s = said (ending p ++ s.numbers) s.good

-- a byte that isn't blank: the number goes on, or nothing more is said
abbrev pub after : Option ℕ → (ℕ → Said) → Said
after None f = said [] false
after (Some v) f = f v

-- what is left of a text, for a reader at a place in it: a blank or the end ends a number
unfoldable pub numbers_from : Option ℕ → List ℕ → Said
numbers_from p [] = said (ending p) true
numbers_from p (b ∷ l) = cond (blank b) (ended p (numbers_from None l)) (after (grown (so_far p) b) (λ v. numbers_from (Some v) l))

unfoldable pub numbers_of : List ℕ → Said
numbers_of bytes = numbers_from None bytes

-- how many numbers, if nothing is strange and there is a place for each
unfoldable pub count_of : (places : ℕ) → Said → Option ℕ
count_of places s = cond (s.good && leb (length s.numbers) places) (Some (length s.numbers)) None

-- ---- what the functions promise, of a lent list as found and as left. Numbers go to their places, as far as there are places.

-- the number under way is stored behind `count` others, and r is how many there are then
pub record EndSays (p : Option ℕ) (found left : List ℕ) (count r : ℕ) : Type 0 where
  pub stored : left ≡ sets found count (ending p)
  pub counted : r ≡ count + length (ending p)

-- of all bytes of a text
pub record ReadSays (bytes found left : List ℕ) (r : Option ℕ) : Type 0 where
  pub stored : left ≡ sets found 0 (numbers_of bytes).numbers
  pub counted : r ≡ count_of (length found) (numbers_of bytes)
