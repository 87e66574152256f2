-- A bench, one step after the other: what happened, and what is there. Assumes nothing.
use Rattle.std.specs.Prelude.{◌≡◌, Bool, true, false, cond, ◌⊎◌, ℕ, ◌+◌, ◌*◌, ◌<◌, eqb, take, drop, Result, Ok, Err}
use mathlib.Core.List.{List, [], ◌∷◌, ◌++◌, map, reverse, Memᴰ}
use Rattle.std.proofs.lemmas.List.Edits.{sets}
use Rattle.waits.specs.declared.refusals.Refusal.{Refusal}
use Rattle.lemmas.specs.Lists.{those}
use Rattle.nodes.specs.Sets.{minus, members, gather}
use Rattle.records.specs.Records.{called, free, in_round}
use Rattle.step.specs.declared.answers.Verdict.{Verdict}
use Rattle.step.specs.declared.answers.Answer.{Answer}
use Rattle.step.specs.declared.answers.Answer.TheVariants.{Old, Stray, Repeat, Taken, Opened as Answer-as-Opened}
use Rattle.lent.specs.declared.steps.Step.{Step}
use Rattle.lent.specs.Kept.{record_size, state_at}
use Rattle.lent.specs.Coded.{message_of}
use Rattle.lent.specs.Steps.{step_of}
use Rattle.bench.specs.Bench.{Bench, After, room, refusal}
use Rattle.bench.specs.Steps.{letter_at, step_on}
use Rattle.bench.specs.Runs.{said, Run, run}
use Rattle.rounds.specs.Verdicts.{verdict_in}
use Rattle.rounds.specs.History.{Event, round_of}
use Rattle.waits.specs.declared.refusals.Reason.TheVariants.{FullRoom}

-- the bench after the steps of a list, the newest first
abbrev pub after_steps : ℕ → List ℕ → Bench → List Step → Bench
after_steps n rows b [] = b
after_steps n rows b (x ∷ l) = (step_on n rows (after_steps n rows b l) x).bench

-- One step: the bench on which it was taken, the step, and what came of it, a bench and an answer.
pub record Turn : Type 0 where
  pub on : Bench
  pub step : Step
  pub gave : After

abbrev pub turn : ℕ → List ℕ → Bench → Step → Turn
turn n rows b x = record { on = b; step = x; gave = step_on n rows b x }

-- all of them, the newest first
abbrev pub turns : ℕ → List ℕ → Bench → List Step → List Turn
turns n rows b [] = []
turns n rows b (x ∷ l) = turn n rows (after_steps n rows b l) x ∷ turns n rows b l

-- the step wasn't refused
abbrev pub accepted : Result Answer Refusal → Bool
accepted (Err r) = false
accepted (Ok Old) = true
accepted (Ok Stray) = true
accepted (Ok Repeat) = true
accepted (Ok (Taken v)) = true
accepted (Ok (Answer-as-Opened v)) = true

-- its messages don't fit the room; it wasn't refused, unless for that
abbrev pub Full : After → Type 0
Full a = a.answer ≡ Err (refusal FullRoom)

abbrev pub Unless12 : After → Type 0
Unless12 a = (accepted a.answer ≡ true) ⊎ Full a

-- the step by which node s opens a round, and the one that delivers message k
abbrev pub opening : ℕ → ℕ → Step
opening s round = record { kind = 0; a = s; b = round }

abbrev pub delivery : ℕ → Step
delivery k = record { kind = 1; a = k; b = 0 }

-- Two lists have the same numbers, but for the places from `first` on that are before `next`.
abbrev pub SameBut : ℕ → ℕ → List ℕ → List ℕ → Type 0
SameBut first next l m = (take first l ≡ take first m) × (drop next l ≡ drop next m)

-- What a step at node i leaves as it was, from one bench to the next: all places but those of the new messages, all that are past the
-- room, and all records but that of node i.
pub record Leaves (b : Bench) (i : ℕ) (next : Bench) : Type 0 where
  pub messages : SameBut b.sent next.sent next.messages b.messages
  pub past_room : drop (room b) next.messages ≡ drop (room b) b.messages
  pub records : SameBut (i * record_size) (i * record_size + record_size) next.records b.records

-- a list of numbers as steps, the newest first
abbrev pub singly : List ℕ → List Step
singly l = reverse (map step_of l)

-- what they come to, taken singly: the bench after all, and in the answer places, from the first on, what each answered, with how many
-- messages were sent so far; the places after these stay
unfoldable pub taken_singly : ℕ → List ℕ → Bench → List ℕ → List ℕ → Run
taken_singly n rows b l answers =
    run (after_steps n rows b (singly l)) (sets answers 0 (reverse (map (λ t. said t.gave) (turns n rows b (singly l))))) (Ok tt)

-- what happens if the step is accepted: a round is opened, or a message arrives
unfoldable pub event_of : Turn → Event
event_of t = cond (eqb t.step.kind 0) (Event.opens t.step.a t.step.b) (Event.arrives (letter_at t.on t.step.a))

-- what happened in all, the newest first
abbrev pub heard : List Turn → List Event
heard [] = []
heard (t ∷ l) = cond (accepted t.gave.answer) (event_of t ∷ heard l) (heard l)

-- node s opened the round; message k was delivered, and not refused
abbrev pub Opened : List Turn → ℕ → ℕ → Type 0
Opened past s round = (t : Turn) × Memᴰ t past × (t.step ≡ opening s round) × (accepted t.gave.answer ≡ true)

abbrev pub Arrived : List Turn → ℕ → Type 0
Arrived past k = (t : Turn) × Memᴰ t past × (t.step.kind ≡ 1) × (t.step.a ≡ k) × (accepted t.gave.answer ≡ true)

-- every message of a round, of those sent, has arrived at least once
abbrev pub AllArrived : ℕ → Bench → List Turn → Type 0
AllArrived round b past = (k : ℕ) → k < b.sent → (letter_at b k).round ≡ round → Arrived past k

-- by some deliveries more, every message sent by then has arrived
abbrev pub CanAllArrive : ℕ → List ℕ → Bench → List Step → Type 0
CanAllArrive n rows b l = (more : List Step) × ((x : Step) → Memᴰ x more → x.kind ≡ 1)
    × ((k : ℕ) → k < (after_steps n rows b (more ++ l)).sent → Arrived (turns n rows b (more ++ l)) k)

-- the verdicts that steps of a round gave, the newest first
unfoldable pub verdicts_given : ℕ → List Turn → List Verdict
verdicts_given round [] = []
verdicts_given round (t ∷ l) = cond (eqb (round_of (event_of t)) round) (verdict_in t.gave.answer) [] ++ verdicts_given round l

-- the messages of a round, of those sent
unfoldable pub messages_of : ℕ → Bench → List ℕ
messages_of round b = those (λ x. eqb (message_of x).round.0 round) (take b.sent b.messages)

-- in the highest round opened: the nodes called, those free, and those called and not free, ascending
unfoldable pub called_on : ℕ → Bench → ℕ
called_on n b = gather (λ i. called (in_round b.highest (state_at b.records i))) n

unfoldable pub free_on : ℕ → Bench → ℕ
free_on n b = gather (λ i. free (in_round b.highest (state_at b.records i))) n

unfoldable pub held_on : ℕ → Bench → List ℕ
held_on n b = members (minus (called_on n b) (free_on n b))
