-- What C is handed back on small mornings, and what is left to it: computed. Assumes nothing.
use mathlib.Core.Path.{◌≡◌, refl}
use mathlib.Core.List.{List, [], ◌∷◌}
use Prim.Native.Nat.{ℕ}
use Rattle.waits.specs.Numbers.{check_of}
use Rattle.waits.specs.Mornings.{ninth_rows}
use Rattle.step.specs.Step.{Outcome}
use Rattle.waits.proofs.Open.{open_waits}
use Rattle.lent.proofs.Open.{open_lent}
use Rattle.node.specs.Refusals.{wrong_own, strange_kept, check_open_of, check_deliver_of}
use Rattle.node.specs.Calls.{open_of, deliver_of}
use Rattle.lent.specs.Kept.{state_at}
use Rattle.coldroom.specs.Results.{checked, answer}
use Rattle.coldroom.specs.Left.{message, record_after, sends_after}

-- Morning 9: 2 of 3 is accepted, 4 of 3 is number 5 of row 0.
two_of_three : checked (check_of 4 (ninth_rows 2)) ≡ 0
unfolding open_waits
two_of_three = refl

four_of_three : checked (check_of 4 (ninth_rows 4)) ≡ 5
unfolding open_waits
four_of_three = refl

-- Morning 6: the controller of node 0, which waits on node 1, opens round 1; then that of node 1 has the NOTIFY.
abbrev blank : List ℕ
blank = 0 ∷ 0 ∷ 0 ∷ 0 ∷ 0 ∷ 0 ∷ 0 ∷ []

abbrev nobody : List ℕ
nobody = 0 ∷ 0 ∷ 0 ∷ 0 ∷ []

abbrev opening : Outcome
opening = open_of 2 0 (1 ∷ 1 ∷ 0b10 ∷ 0 ∷ 0 ∷ 0 ∷ []) 0 (state_at blank 0) 1

abbrev called : Outcome
called = deliver_of 2 1 (0 ∷ 0 ∷ 0 ∷ 0 ∷ 0 ∷ 0 ∷ []) 0b01 (state_at blank 0) (message 0 0 1 1)

opened : (answer opening.answer ≡ 65656) × (record_after blank opening ≡ 1 ∷ 1 ∷ 0 ∷ 0 ∷ 0 ∷ 0 ∷ 0 ∷ []) × (sends_after nobody opening ≡ 0b10 ∷ 0 ∷ 0 ∷ 0 ∷ [])
unfolding open_lent wrong_own strange_kept check_open_of check_deliver_of open_of deliver_of
opened = (refl, refl, refl)

notified : (answer called.answer ≡ 65646) × (record_after blank called ≡ 1 ∷ 2 ∷ 1 ∷ 0b01 ∷ 0 ∷ 0 ∷ 0 ∷ []) × (sends_after nobody called ≡ 0 ∷ 0b01 ∷ 0 ∷ 0 ∷ [])
unfolding open_lent wrong_own strange_kept check_open_of check_deliver_of open_of deliver_of
notified = (refl, refl, refl)
