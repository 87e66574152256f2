-- Controllers at work on two small mornings, call by call. Assumes nothing.
use mathlib.Core.Path.{◌≡◌, refl}
use mathlib.Core.List.{List, [], ◌∷◌}
use Prim.Native.Nat.{ℕ}
use lib.Dec.{lit<, lit≤}
use Rattle.std.specs.Prelude.{Result, Ok, Some, None}
use Rattle.waits.specs.declared.refusals.Refusal.{Refusal}
use Rattle.records.specs.declared.messages.Kind.TheVariants.{Notify, Grant, Ack, Done}
use Rattle.records.specs.Messages.{Letter, strange_message}
use Rattle.waits.specs.Mornings.{fourth_rows, sixth_rows}
use Rattle.step.specs.declared.answers.Verdict.TheVariants.{Deadlocked, NotDeadlocked}
use Rattle.step.specs.declared.answers.Answer.{Answer}
use Rattle.step.specs.declared.answers.Answer.TheVariants.{Old, Taken, Opened}
use Rattle.step.specs.Letters.{letter}
use Rattle.node.specs.Refusals.{wrong_own, strange_kept, check_open_of, check_deliver_of}
use Rattle.node.specs.Calls.{open_of, deliver_of}
use Rattle.rounds.specs.History.{Event}
use Rattle.rounds.specs.History.Event.{opens, arrives}
use Rattle.rounds.proofs.Open.{open_rounds}
use Rattle.rounds.proofs.Mornings.{at}
use Rattle.demands.specs.Controllers.{together, answers, MayHappen}

-- After the events of l, the newest first: they may happen, these messages were sent, and the calls answered so.
abbrev Works : ℕ → List ℕ → List Event → List Letter → List (Event × Result Answer Refusal) → Type 0
Works n rows l sent said = MayHappen n rows l × ((together n rows l).sent ≡ sent) × (answers n rows l ≡ said)

-- morning 4: both wait on each other, and 0 asks
pub fourth_works : Works 2 fourth_rows
    (arrives (letter Done 1 0 1) ∷ arrives (letter Done 0 1 1) ∷ arrives (letter Notify 1 0 1) ∷ arrives (letter Notify 0 1 1) ∷ opens 0 1 ∷ [])
    (letter Notify 0 1 1 ∷ letter Notify 1 0 1 ∷ letter Done 0 1 1 ∷ letter Done 1 0 1 ∷ [])
    ((arrives (letter Done 1 0 1), Ok (Taken (Some Deadlocked)))
    ∷ (arrives (letter Done 0 1 1), Ok (Taken None))
    ∷ (arrives (letter Notify 1 0 1), Ok (Taken None))
    ∷ (arrives (letter Notify 0 1 1), Ok (Taken None))
    ∷ (opens 0 1, Ok (Opened None))
    ∷ [])
unfolding open_rounds together open_of deliver_of check_open_of check_deliver_of wrong_own strange_kept strange_message
fourth_works = ((at 3 refl, (at 2 refl, (at 1 refl, (at 0 refl, (lit< tt, lit< tt, lit≤ tt, tt))))), refl, refl)

-- morning 6: 0 asks, then 1, which is active; the NOTIFY of round 1 comes late, and round 2 ends
pub sixth_works : Works 2 sixth_rows
    (arrives (letter Ack 0 1 2) ∷ arrives (letter Grant 1 0 2) ∷ arrives (letter Notify 0 1 1) ∷ opens 1 2 ∷ opens 0 1 ∷ [])
    (letter Notify 0 1 1 ∷ letter Grant 1 0 2 ∷ letter Ack 0 1 2 ∷ [])
    ((arrives (letter Ack 0 1 2), Ok (Taken (Some NotDeadlocked)))
    ∷ (arrives (letter Grant 1 0 2), Ok (Taken None))
    ∷ (arrives (letter Notify 0 1 1), Ok Old)
    ∷ (opens 1 2, Ok (Opened None))
    ∷ (opens 0 1, Ok (Opened None))
    ∷ [])
unfolding open_rounds together open_of deliver_of check_open_of check_deliver_of wrong_own strange_kept strange_message
sixth_works = ((at 2 refl, (at 1 refl, (at 0 refl, (lit< tt, lit< tt, lit≤ tt, (lit< tt, lit< tt, lit≤ tt, tt))))), refl, refl)
