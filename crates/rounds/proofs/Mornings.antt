-- The definitions of a round, computed on small mornings of the paper, message by message. Assumes nothing.
use mathlib.Core.Path.{◌≡◌, refl}
use mathlib.Core.List.{List, [], ◌∷◌, Memᴰ}
use mathlib.Core.List.Memᴰ.{head as here}
use mathlib.Core.List.Memᴰ.{tail as there}
use Prim.Native.Nat.{ℕ, zero, suc}
use Rattle.records.specs.declared.messages.Kind.TheVariants.{Notify, Grant, Ack, Done}
use Rattle.records.specs.Messages.{Letter}
use Rattle.waits.specs.Waits.{Waits}
use Rattle.waits.specs.Rows.{waits_of}
use Rattle.waits.specs.Mornings.{fourth_rows, sixth_rows}
use Rattle.step.specs.declared.answers.Verdict.{Verdict}
use Rattle.step.specs.declared.answers.Verdict.TheVariants.{Deadlocked, NotDeadlocked}
use Rattle.step.specs.Letters.{letter}
use Rattle.rounds.proofs.Open.{open_rounds}
use Rattle.rounds.specs.Course.{after, Course}
use Rattle.rounds.specs.Verdicts.{verdicts}

-- Round 1 of node 0, after the messages of l, the newest first: they were sent, these are all that were, and this is what was said.
abbrev pub Comes : Waits → List Letter → List Letter → List Verdict → Type 0
Comes w l sent said = Course w 0 1 l × ((after w 0 1 l).sent ≡ sent) × (verdicts w 0 1 l ≡ said)

-- m stands at place k of a list, and so is in it
abbrev Stands : ℕ → Letter → List Letter → Type 0
Stands k m [] = ⊥
Stands zero m (x ∷ l) = m ≡ x
Stands (suc k) m (x ∷ l) = Stands k m l

pub at : (k : ℕ) {m : Letter} {l : List Letter} → Stands k m l → Memᴰ m l
at zero {l = x ∷ l} e = here e
at (suc k) {l = x ∷ l} e = there (at k e)
at zero {m = m} {l = []} e = elim e [ ]
at (suc k) {m = m} {l = []} e = elim e [ ]

-- morning 6: 1 waits on 2, and 2 is active
abbrev pub sixth : Waits
sixth = waits_of 2 sixth_rows

pub sixth_comes : Comes sixth
    (letter Done 1 0 1 ∷ letter Ack 0 1 1 ∷ letter Grant 1 0 1 ∷ letter Notify 0 1 1 ∷ [])
    (letter Notify 0 1 1 ∷ letter Grant 1 0 1 ∷ letter Ack 0 1 1 ∷ letter Done 1 0 1 ∷ [])
    (NotDeadlocked ∷ [])
unfolding open_rounds
sixth_comes = ((at 3 refl, (at 2 refl, (at 1 refl, (at 0 refl, tt)))), refl, refl)

-- morning 7, in round 1: the GRANT is withheld, however often the NOTIFY comes
pub withheld : Comes sixth
    (letter Notify 0 1 1 ∷ letter Notify 0 1 1 ∷ [])
    (letter Notify 0 1 1 ∷ letter Grant 1 0 1 ∷ [])
    []
unfolding open_rounds
withheld = ((at 0 refl, (at 0 refl, tt)), refl, refl)

-- morning 4: 1 waits on 2, and 2 on 1
abbrev fourth : Waits
fourth = waits_of 2 fourth_rows

pub fourth_comes : Comes fourth
    (letter Done 1 0 1 ∷ letter Done 0 1 1 ∷ letter Notify 1 0 1 ∷ letter Notify 0 1 1 ∷ [])
    (letter Notify 0 1 1 ∷ letter Notify 1 0 1 ∷ letter Done 0 1 1 ∷ letter Done 1 0 1 ∷ [])
    (Deadlocked ∷ [])
unfolding open_rounds
fourth_comes = ((at 3 refl, (at 2 refl, (at 1 refl, (at 0 refl, tt)))), refl, refl)
