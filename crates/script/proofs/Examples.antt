-- Small cases, computed. Assumes nothing.
use mathlib.Core.Path.{◌≡◌, refl}
use mathlib.Core.Bool.{true, false}
use mathlib.Core.List.{[], ◌∷◌}
use Prim.Native.Nat.{◌+◌, ◌*◌, ◌^◌}
use Rattle.text.specs.Words.{word}
use Rattle.text.specs.Digits.{is_digit, grown}
use Rattle.script.specs.Numbers.{blank, said, numbers_from, numbers_of}
use Rattle.lent.specs.Steps.{step_number}
use Rattle.script.specs.Steps.{good_step, good_steps, steps_of}
use Rattle.script.specs.Script.{with_rows, script_of, meant_by}
use Rattle.script.specs.Script.Meant.{NoScript, IsScript}

leading_zeros : numbers_of (word " 007\r\n\t12") ≡ said (7 ∷ 12 ∷ []) true
unfolding word blank is_digit grown numbers_from numbers_of
leading_zeros = refl

-- the number under way isn't said
a_letter : numbers_of (word "3 4x 5") ≡ said (3 ∷ []) false
unfolding word blank is_digit grown numbers_from numbers_of
a_letter = refl

the_largest : numbers_of (word "18446744073709551615") ≡ said (18446744073709551615 ∷ []) true
unfolding word blank is_digit grown numbers_from numbers_of
the_largest = refl

past_it : numbers_of (word "18446744073709551616") ≡ said [] false
unfolding word blank is_digit grown numbers_from numbers_of
past_it = refl

-- one node, two row numbers, room for 16 messages, two steps
two_steps : meant_by (word "1 2 30 40 16 2 0 5 6 1 7 0\n")
    ≡ IsScript (record { nodes = 1; rows = 30 ∷ 40 ∷ []; room = 16; steps = (5 * 2 ^ 24 + 6) ∷ (2 ^ 48 + 7 * 2 ^ 24) ∷ [] })
unfolding word blank is_digit grown numbers_from numbers_of good_step step_number good_steps steps_of with_rows script_of meant_by
two_steps = refl

one_short : meant_by (word "1 2 30 40 16 2 0 5 6 1 7\n") ≡ NoScript
unfolding word blank is_digit grown numbers_from numbers_of good_step step_number good_steps steps_of with_rows script_of meant_by
one_short = refl

one_more : meant_by (word "1 2 30 40 16 2 0 5 6 1 7 0 0\n") ≡ NoScript
unfolding word blank is_digit grown numbers_from numbers_of good_step step_number good_steps steps_of with_rows script_of meant_by
one_more = refl

large_step : meant_by (word "1 0 16 1 0 16777216 6\n") ≡ NoScript
unfolding word blank is_digit grown numbers_from numbers_of good_step step_number good_steps steps_of with_rows script_of meant_by
large_step = refl
