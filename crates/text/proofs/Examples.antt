-- Small cases, computed. Assumes nothing.
use mathlib.Core.Path.{◌≡◌, refl}
use mathlib.Core.List.{[], ◌∷◌}
use Rattle.text.specs.Words.{word, digits, decimal}
use Rattle.text.specs.Text.{text, one, write}

a_word : word "ACK\n" ≡ 65 ∷ 67 ∷ 75 ∷ 10 ∷ []
unfolding word
a_word = refl

zero_has_a_digit : decimal 0 ≡ word "0"
unfolding word digits decimal
zero_has_a_digit = refl

no_leading_zero : decimal 100 ≡ word "100"
unfolding word digits decimal
no_leading_zero = refl

the_largest : decimal 18446744073709551615 ≡ word "18446744073709551615"
unfolding word digits decimal
the_largest = refl

-- the third byte has no place
clipped : write (text (1 ∷ 2 ∷ 3 ∷ []) 1) (7 ∷ 8 ∷ 9 ∷ []) ≡ text (1 ∷ 7 ∷ 8 ∷ []) 3
unfolding write one
clipped = refl
