-- Messages of an old round that come late, on the sixth morning: what comes of them by the rules, and that demand 3 is false of a node
-- which doesn't leave them alone. Assumes nothing.
use mathlib.Core.Path.{◌≡◌, refl, ap}
use mathlib.Core.Bool.{false, cond}
use mathlib.Core.List.{List, [], ◌∷◌, ◌++◌, Memᴰ}
use mathlib.Core.List.Memᴰ.{head as here}
use mathlib.Core.List.Memᴰ.{tail as there}
use Prim.Native.Nat.{ℕ, ◌<◌}
use lib.Dec.{eqb, lit<}
use Rattle.records.specs.declared.messages.Kind.TheVariants.{Notify, Grant, Ack, Done}
use Rattle.records.specs.Messages.{Letter, kind_number}
use Rattle.records.specs.Rounds.{behind, cannot_open}
use Rattle.records.specs.Records.{blank_of, in_round}
use Rattle.std.specs.Prelude.{Ok}
use Rattle.step.specs.declared.answers.Verdict.{Verdict}
use Rattle.step.specs.declared.answers.Verdict.TheVariants.{NotDeadlocked}
use Rattle.step.specs.declared.answers.Answer.TheVariants.{Old}
use Rattle.step.specs.Step.{Outcome, seen_in, still, open_round, arrive}
use Rattle.step.specs.Letters.{letter}
use Rattle.rounds.specs.Course.{Stage, joined, unheard, reply}
use Rattle.rounds.specs.Verdicts.{verdict_in}
use Rattle.rounds.specs.History.{Event, node_of, round_of, outcome, since, highest_in, History, of_round, verdicts_of}
use Rattle.rounds.specs.History.Event.{opens, arrives}
use Rattle.rounds.proofs.Open.{open_rounds}
use Rattle.rounds.proofs.Mornings.{at, sixth}

-- ---- by the rules

-- After the events of l, the newest first: they can happen, these are the messages sent in round 2, and this was said in it.
abbrev Happens : List Event → List Letter → List Verdict → Type 0
Happens l sent said = History sixth l × (of_round 2 (since sixth l).sent ≡ sent) × (verdicts_of sixth 2 l ≡ said)

-- the NOTIFY of round 1 comes late
pub late_notify : Happens
    (arrives (letter Done 1 0 2) ∷ arrives (letter Ack 0 1 2) ∷ arrives (letter Notify 0 1 1) ∷ arrives (letter Grant 1 0 2)
    ∷ arrives (letter Notify 0 1 2) ∷ opens 0 2 ∷ opens 0 1 ∷ [])
    (letter Notify 0 1 2 ∷ letter Grant 1 0 2 ∷ letter Ack 0 1 2 ∷ letter Done 1 0 2 ∷ [])
    (NotDeadlocked ∷ [])
unfolding open_rounds
late_notify = ((at 4 refl, (at 3 refl, (at 0 refl, (at 2 refl, (at 1 refl, (lit< tt, refl, (lit< tt, refl, tt))))))), refl, refl)

-- the GRANT of round 1 comes late
pub late_grant : Happens
    (arrives (letter Done 1 0 2) ∷ arrives (letter Ack 0 1 2) ∷ arrives (letter Grant 1 0 2) ∷ arrives (letter Notify 0 1 2)
    ∷ arrives (letter Grant 1 0 1) ∷ opens 0 2 ∷ arrives (letter Notify 0 1 1) ∷ opens 0 1 ∷ [])
    (letter Notify 0 1 2 ∷ letter Grant 1 0 2 ∷ letter Ack 0 1 2 ∷ letter Done 1 0 2 ∷ [])
    (NotDeadlocked ∷ [])
unfolding open_rounds
late_grant = ((at 5 refl, (at 4 refl, (at 3 refl, (at 2 refl, (at 1 refl, (lit< tt, refl, (at 0 refl, (lit< tt, refl, tt)))))))), refl, refl)

-- ---- by another node

-- what a node does at an event, on that morning
abbrev Rule : Type 0
Rule = Stage → Event → Outcome

-- the state, and what was said in a round, after the events of a list; and which lists can happen: as by the rules, with this node
abbrev since_by : Rule → List Event → Stage
since_by rule [] = unheard 0
since_by rule (e ∷ l) = joined (since_by rule l) (node_of e) (rule (since_by rule l) e)

abbrev said_by : Rule → ℕ → List Event → List Verdict
said_by rule round [] = []
said_by rule round (e ∷ l) = cond (eqb (round_of e) round) (verdict_in (rule (since_by rule l) e).answer) [] ++ said_by rule round l

abbrev CanBe : Rule → List Event → Type 0
CanBe rule [] = Unit {0}
CanBe rule (opens i round ∷ l) = (i < 2) × (cannot_open (highest_in l) round ≡ false) × CanBe rule l
CanBe rule (arrives m ∷ l) = Memᴰ m (since_by rule l).sent × CanBe rule l

-- each of these messages has arrived
abbrev AllIn : List Event → List Letter → Type 0
AllIn l [] = Unit {0}
AllIn l (m ∷ sent) = Memᴰ (arrives m) l × AllIn l sent

-- Round 2 is the newest, each message of it has arrived, and nothing is said: against demand 3.
abbrev Silent : Rule → List Event → List Letter → Type 0
Silent rule l sent = CanBe rule l × (highest_in l ≡ 2) × (of_round 2 (since_by rule l).sent ≡ sent) × AllIn l sent × (said_by rule 2 l ≡ [])

-- the node of the rules is one of these
same_since : (l : List Event) → since_by (outcome sixth) l ≡ since sixth l
unfolding since
same_since [] = refl
same_since (e ∷ l) = ap (λ (c : Stage). joined c (node_of e) (outcome sixth c e)) (same_since l)

-- A node that blanks its record when a message of an old round comes.
abbrev blanking : Rule
blanking c (opens i round) = open_round (seen_in sixth i) round
blanking c (arrives m) = cond (behind m.round (c.records m.to).round) (still (blank_of (c.records m.to).round) (Ok Old)) (reply sixth c m)

-- Node 1 forgets that it is free, so the ACK is stray, and no DONE is sent.
pub blanking_silent : Silent blanking
    (arrives (letter Ack 0 1 2) ∷ arrives (letter Notify 0 1 1) ∷ arrives (letter Grant 1 0 2) ∷ arrives (letter Notify 0 1 2) ∷ opens 0 2 ∷ opens 0 1 ∷ [])
    (letter Notify 0 1 2 ∷ letter Grant 1 0 2 ∷ letter Ack 0 1 2 ∷ [])
unfolding open_rounds
blanking_silent = (
  (at 3 refl, (at 0 refl, (at 2 refl, (at 1 refl, (lit< tt, refl, (lit< tt, refl, tt)))))),
  refl,
  refl,
  (there (there (there (here refl))), (there (there (here refl)), (here refl, tt))),
  refl,
)

-- A node that lets a GRANT of an old round through, as if it were of its own.
abbrev letting : Rule
letting c (opens i round) = open_round (seen_in sixth i) round
letting c (arrives m) =
    let r = c.records m.to in
    cond (eqb (kind_number m.kind) 1) (arrive (seen_in sixth m.to) r (in_round m.round r) m) (reply sixth c m)

-- Node 0 is free in round 2 and sends its ACK before node 1 has heard of the round, where it is stray; the GRANT of round 2 is then a
-- repeat, and no other ACK is sent.
pub letting_silent : Silent letting
    (arrives (letter Grant 1 0 2) ∷ arrives (letter Notify 0 1 2) ∷ arrives (letter Ack 0 1 2) ∷ arrives (letter Grant 1 0 1) ∷ opens 0 2
    ∷ arrives (letter Notify 0 1 1) ∷ opens 0 1 ∷ [])
    (letter Notify 0 1 2 ∷ letter Ack 0 1 2 ∷ letter Grant 1 0 2 ∷ [])
unfolding open_rounds
letting_silent = (
  (at 4 refl, (at 2 refl, (at 3 refl, (at 1 refl, (lit< tt, refl, (at 0 refl, (lit< tt, refl, tt))))))),
  refl,
  refl,
  (there (here refl), (there (there (here refl)), (here refl, tt))),
  refl,
)
