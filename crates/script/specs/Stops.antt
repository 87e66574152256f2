-- Where a text stops being decimal numbers with blanks between them. Assumes nothing.
use Rattle.std.specs.Prelude.{cond, List, [], ◌∷◌, ℕ, suc, eqb, Option, Some, None, Result, Ok, Err}
use Rattle.text.specs.Digits.{is_digit, grown}
use Rattle.script.specs.declared.stops.Stop.{Stop}
use Rattle.script.specs.declared.stops.Stop.TheVariants.{Odd, Large}
use Rattle.script.specs.Numbers.{blank, so_far}

-- LF ends a line
unfoldable pub line_after : (line b : ℕ) → ℕ
line_after line b = cond (eqb b 10) (suc line) line

-- a strange byte: a digit makes the number too large, and anything else is no part of a number
unfoldable pub stop_at : (line b : ℕ) → Stop
stop_at line b = cond (is_digit b) (Large line) (Odd line)

-- a byte that isn't blank: the number goes on, or the text stops there
abbrev pub stop_or : Stop → Option ℕ → (ℕ → Result Unit Stop) → Result Unit Stop
stop_or s None f = Err s
stop_or s (Some v) f = f v

-- what is left of a text, for a reader at a place in it, on this line
unfoldable pub stop_from : (line : ℕ) → Option ℕ → List ℕ → Result Unit Stop
stop_from line p [] = Ok tt
stop_from line p (b ∷ l) =
    cond (blank b) (stop_from (line_after line b) None l)
    (stop_or (stop_at line b) (grown (so_far p) b) (λ v. stop_from line (Some v) l))

unfoldable pub stop_of : List ℕ → Result Unit Stop
stop_of bytes = stop_from 1 None bytes
