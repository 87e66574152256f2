-- The shortcuts that spoiled other detectors: for each a course on which it would go wrong, and what comes of it by the rules.
-- Assumes nothing.
use mathlib.Core.Path.{refl}
use mathlib.Core.List.{[], ◌∷◌}
use Rattle.records.specs.declared.messages.Kind.TheVariants.{Notify, Grant, Ack, Done}
use Rattle.waits.specs.Waits.{Waits}
use Rattle.waits.specs.Rows.{waits_of}
use Rattle.waits.specs.Mornings.{ninth_rows}
use Rattle.step.specs.declared.answers.Verdict.TheVariants.{Deadlocked, NotDeadlocked}
use Rattle.step.specs.Letters.{letter}
use Rattle.rounds.proofs.Open.{open_rounds}
use Rattle.rounds.proofs.Mornings.{Comes, at, sixth}

-- morning 9: 0 needs two of 1, 2 and 3; 1 is active, and 2 and 3 wait on 0
abbrev ninth : Waits
ninth = waits_of 4 (ninth_rows 2)

-- Counting answers instead of remembering who gave them: the GRANT that comes twice would meet "two of three". 0 would grant to 2
-- and 3, and this same course would end not deadlocked.
pub counted : Comes ninth
    (letter Done 3 0 1 ∷ letter Done 2 0 1 ∷ letter Done 1 0 1 ∷ letter Done 0 3 1 ∷ letter Done 0 2 1 ∷ letter Ack 0 1 1
    ∷ letter Notify 3 0 1 ∷ letter Notify 2 0 1 ∷ letter Grant 1 0 1 ∷ letter Grant 1 0 1 ∷ letter Notify 0 3 1 ∷ letter Notify 0 2 1
    ∷ letter Notify 0 1 1 ∷ [])
    (letter Notify 0 1 1 ∷ letter Notify 0 2 1 ∷ letter Notify 0 3 1 ∷ letter Grant 1 0 1 ∷ letter Notify 2 0 1 ∷ letter Notify 3 0 1
    ∷ letter Ack 0 1 1 ∷ letter Done 0 2 1 ∷ letter Done 0 3 1 ∷ letter Done 1 0 1 ∷ letter Done 2 0 1 ∷ letter Done 3 0 1 ∷ [])
    (Deadlocked ∷ [])
unfolding open_rounds
counted = ((at 11 refl, (at 10 refl, (at 9 refl, (at 8 refl, (at 7 refl, (at 6 refl, (at 5 refl, (at 4 refl, (at 3 refl, (at 3 refl, (at 2 refl, (at 1 refl, (at 0 refl, tt))))))))))))), refl, refl)

-- DONE for a repeated NOTIFY from the caller: it would be sent at once, before the ACK. Delivered before the GRANT, it would end the
-- round as deadlocked, which 0 isn't.
pub again : Comes sixth
    (letter Done 1 0 1 ∷ letter Ack 0 1 1 ∷ letter Grant 1 0 1 ∷ letter Notify 0 1 1 ∷ letter Notify 0 1 1 ∷ [])
    (letter Notify 0 1 1 ∷ letter Grant 1 0 1 ∷ letter Ack 0 1 1 ∷ letter Done 1 0 1 ∷ [])
    (NotDeadlocked ∷ [])
unfolding open_rounds
again = ((at 3 refl, (at 2 refl, (at 1 refl, (at 0 refl, (at 0 refl, tt))))), refl, refl)

-- 0 needs both 1 and 2, 1 waits on 2, and 2 is active: GRANT may come to 1 before NOTIFY does
abbrev early : Waits
early = waits_of 3 (
    1 ∷ 2 ∷ 0b110 ∷ 0 ∷ 0 ∷ 0
    ∷ 1 ∷ 1 ∷ 0b100 ∷ 0 ∷ 0 ∷ 0
    ∷ 0 ∷ 0 ∷ 0 ∷ 0 ∷ 0 ∷ 0
    ∷ [])

-- Freeing a node again when NOTIFY follows the GRANT that freed it: 1 would send 0 its GRANT a second time. All that it sends
-- then is NOTIFY to 2.
pub freed_twice : Comes early
    (letter Notify 0 1 1 ∷ letter Grant 2 1 1 ∷ letter Notify 0 2 1 ∷ [])
    (letter Notify 0 1 1 ∷ letter Notify 0 2 1 ∷ letter Grant 2 0 1 ∷ letter Grant 2 1 1 ∷ letter Grant 1 0 1 ∷ letter Notify 1 2 1 ∷ [])
    []
unfolding open_rounds
freed_twice = ((at 0 refl, (at 3 refl, (at 1 refl, tt))), refl, refl)

-- Sending GRANT only to nodes already called: 2 would send none to 1, whose NOTIFY is late, and neither 1 nor 0 would ever be free.
pub only_to_called : Comes early
    (letter Done 1 0 1 ∷ letter Done 2 1 1 ∷ letter Notify 1 2 1 ∷ letter Notify 0 1 1 ∷ letter Done 2 0 1 ∷ letter Ack 1 2 1
    ∷ letter Ack 0 1 1 ∷ letter Grant 1 0 1 ∷ letter Ack 0 2 1 ∷ letter Grant 2 1 1 ∷ letter Grant 2 0 1 ∷ letter Notify 0 2 1 ∷ [])
    (letter Notify 0 1 1 ∷ letter Notify 0 2 1 ∷ letter Grant 2 0 1 ∷ letter Grant 2 1 1 ∷ letter Ack 0 2 1 ∷ letter Grant 1 0 1
    ∷ letter Ack 0 1 1 ∷ letter Ack 1 2 1 ∷ letter Done 2 0 1 ∷ letter Notify 1 2 1 ∷ letter Done 2 1 1 ∷ letter Done 1 0 1 ∷ [])
    (NotDeadlocked ∷ [])
unfolding open_rounds
only_to_called = ((at 11 refl, (at 10 refl, (at 9 refl, (at 0 refl, (at 8 refl, (at 7 refl, (at 6 refl, (at 5 refl, (at 4 refl, (at 3 refl, (at 2 refl, (at 1 refl, tt)))))))))))), refl, refl)
