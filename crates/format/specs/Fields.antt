-- What a field says: a number, a set of nodes, or a word of the header. Assumes nothing.
use Rattle.std.specs.Prelude.{Bool, true, false, cond, not, ◌&&◌, ◌||◌, List, [], ◌∷◌, ℕ, ◌-◌, ◌^◌, leb, eqb, length, take, drop, get_or}
use Rattle.std.proofs.Math.Option.{Option, none, some}
use Rattle.lemmas.specs.Lists.{any_of, ascending}
use Rattle.nodes.specs.Sets.{set_of}
use Rattle.nodes.specs.Words.{places}
use Rattle.text.specs.Digits.{is_digit, longer}
use Rattle.format.specs.Cut.{space, quote, pieces}

-- A field may be quoted: it then means what stands between its quotes. A quote, a comma or a line's end in there would be right in
-- no column, so nothing more is said of them; that this is RFC 4180 all the same is shown (`ByGrammar`).
unfoldable pub quoted : List ℕ → Bool
quoted w = leb 2 (length w) && (eqb (get_or w 0 0) quote && eqb (get_or w (length w - 1) 0) quote)

unfoldable pub bare : List ℕ → List ℕ
bare w = cond (quoted w) (take (length w - 2) (drop 1 w)) w

-- ---- numbers

unfoldable pub no_digit : ℕ → Bool
no_digit b = not (is_digit b)

-- the value of digits that follow a number
unfoldable pub value_from : ℕ → List ℕ → ℕ
value_from v [] = v
value_from v (b ∷ l) = value_from (longer v b) l

-- A number is one digit or more, and its value has 64 bits at most; zeros in front add nothing to a value. This is none:
unfoldable pub no_number : List ℕ → Bool
no_number w = eqb (length w) 0 || (any_of no_digit w || leb (2 ^ 64) (value_from 0 w))

unfoldable pub number_of : List ℕ → Option ℕ
number_of w = cond (no_number w) none (some (value_from 0 w))

-- ---- sets

-- the numbers that pieces are, if each is one
abbrev pub in_front : Option ℕ → Option (List ℕ) → Option (List ℕ)
in_front none ms = none
in_front (some m) none = none
in_front (some m) (some ms) = some (m ∷ ms)

unfoldable pub numbers_of : List (List ℕ) → Option (List ℕ)
numbers_of [] = some []
numbers_of (w ∷ ws) = in_front (number_of w) (numbers_of ws)

-- a set with no members is written as nothing, any other as its members with one space between two
unfoldable pub members_of : List ℕ → Option (List ℕ)
members_of [] = some []
members_of (b ∷ l) = numbers_of (pieces space (b ∷ l))

-- A set's members ascend, each below the next, and a set has a place for each. These don't:
unfoldable pub no_set : List ℕ → Bool
no_set ms = not (ascending ms) || any_of (leb places) ms

abbrev pub set_of_these : Option (List ℕ) → Option ℕ
set_of_these none = none
set_of_these (some ms) = cond (no_set ms) none (some (set_of ms))

unfoldable pub set_in : List ℕ → Option ℕ
set_in w = set_of_these (members_of w)

-- ---- words

-- two texts are the same
unfoldable pub same : List ℕ → List ℕ → Bool
same [] [] = true
same [] (y ∷ m) = false
same (x ∷ l) [] = false
same (x ∷ l) (y ∷ m) = eqb x y && same l m

-- a word says nothing more than that it is there
unfoldable pub word_in : List ℕ → List ℕ → Option ℕ
word_in word w = cond (same w word) (some 0) none

-- ---- one field after the other

-- What a field says, and the fields after it: there are none once something was wrong.
abbrev pub Fields : Type 0
Fields = Option (List (List ℕ))

pub record Taken : Type 0 where
  pub value : ℕ
  pub rest : Fields

abbrev pub taken : Option ℕ → List (List ℕ) → Taken
taken none ws = record { value = 0; rest = none }
taken (some v) ws = record { value = v; rest = some ws }

-- the next field, without its quotes, as `f` reads it
unfoldable pub next : (List ℕ → Option ℕ) → Fields → Taken
next f none = taken none []
next f (some []) = taken none []
next f (some (w ∷ ws)) = taken (f (bare w)) ws

-- nothing was wrong, and no field is left
abbrev pub done : Fields → Bool
done none = false
done (some []) = true
done (some (w ∷ ws)) = false
