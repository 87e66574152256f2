-- All controllers of a graph together, each by its own two calls, for as long as they run: no bench is here, and no end of room. What
-- ../../../include/coldroom.h promises of them is shown in ../proofs/Controllers.antt. Assumes nothing.
use Rattle.std.specs.Prelude.{◌≡◌, true, ◌⊎◌, ℕ, ◌≤◌, ◌<◌, length, Result, Ok}
use mathlib.Core.List.{List, [], ◌∷◌, Memᴰ}
use Rattle.waits.specs.declared.refusals.Refusal.{Refusal}
use Rattle.records.specs.declared.messages.Message.{Message}
use Rattle.records.specs.Rounds.{last_round}
use Rattle.records.specs.Messages.{Letter, kind_number}
use Rattle.records.specs.Records.{State}
use Rattle.waits.specs.Waits.{Waits, in_of}
use Rattle.waits.specs.Rows.{row_at, row_numbers, waits_of}
use Rattle.waits.specs.Numbers.{check_of}
use Rattle.step.specs.declared.answers.Verdict.{Verdict}
use Rattle.step.specs.declared.answers.Answer.{Answer}
use Rattle.step.specs.declared.answers.Answer.TheVariants.{Old, Stray}
use Rattle.step.specs.Step.{Outcome, still}
use Rattle.node.specs.Calls.{open_of, deliver_of}
use Rattle.rounds.specs.Course.{Stage, joined, unheard}
use Rattle.rounds.specs.Verdicts.{verdict_in, Right}
use Rattle.rounds.specs.History.{Event, node_of, round_of, since, highest_in, History, Opened, answers_of, verdicts_among}
use Rattle.rounds.specs.ManyRounds.{ManyRounds}
use Rattle.demands.specs.Turns.{accepted}

-- a message, as its four numbers are handed to a controller
abbrev pub message : Letter → Message
message m = record { kind = kind_number m.kind; from = record { 0 = m.from }; to = record { 0 = m.to }; round = record { 0 = m.round } }

module _ (n : ℕ) (rows : List ℕ) where
  abbrev w : Waits
  w = waits_of n rows

  -- The two calls of controller i, which has the record s: it opens a round; a message has come to it, whoever that is for. Of the graph
  -- it is told the node count, its own number, the six numbers of its own row, and its IN.
  abbrev pub opens : ℕ → State → ℕ → Outcome
  opens i s round = open_of n i (row_numbers (row_at rows i)) (in_of w i) s round

  abbrev pub delivers : ℕ → State → Letter → Outcome
  delivers i s m = deliver_of n i (row_numbers (row_at rows i)) (in_of w i) s (message m)

  -- what is called when something happens
  abbrev pub call : Stage → Event → Outcome
  call c (Event.opens i round) = opens i (c.records i) round
  call c (Event.arrives m) = delivers m.to (c.records m.to) m

  -- Every controller's record, and every message ever sent, after the events of a list, the newest first. Fresh records are blank in
  -- round 0. A controller keeps the record that its call hands back, and its messages go out, in that record's round.
  unfoldable pub together : List Event → Stage
  together [] = unheard 0
  together (e ∷ l) = joined (together l) (node_of e) (call (together l) e)

  -- each event with what its call answered
  abbrev pub answers : List Event → List (Event × Result Answer Refusal)
  answers [] = []
  answers (e ∷ l) = (e, (call (together l) e).answer) ∷ answers l

  -- What may happen. A round is opened with a number above all before it, by whichever controller, and 65,535 is the last. A message
  -- arrives that was sent, at any time and again and again; what is lost is never in the list.
  abbrev pub MayHappen : List Event → Type 0
  MayHappen [] = Unit {0}
  MayHappen (Event.opens i round ∷ l) = (i < n) × (highest_in l < round) × (round ≤ last_round) × MayHappen l
  MayHappen (Event.arrives m ∷ l) = Memᴰ m (together l).sent × MayHappen l

  pub record Together (l : List Event) : Type 0 where
    -- No call is refused: 13 is for what can't be, and what they keep and send can be. A message that has come to a controller which it
    -- isn't for changes nothing there.
    pub not_refused : (e : Event) (a : Result Answer Refusal) → Memᴰ (e, a) (answers l) → accepted a ≡ true
    pub astray : (m : Letter) → Memᴰ m (together l).sent → (i : ℕ) → i < n → (m.to ≡ i → ⊥)
        → (delivers i ((together l).records i) m ≡ still ((together l).records i) (Ok Old)) ⊎ (delivers i ((together l).records i) m ≡ still ((together l).records i) (Ok Stray))
    -- "no round gives a false verdict": only the controller that opened a round gives one in it, which is right of its node, and once at
    -- most.
    pub no_false : (e : Event) (a : Result Answer Refusal) → Memᴰ (e, a) (answers l) → (v : Verdict) → Memᴰ v (verdict_in a)
        → Opened l (node_of e) (round_of e) × Right w (node_of e) v
    pub one_verdict : (round : ℕ) → length (verdicts_among round (answers l)) ≤ 1
    -- "and a round after which no other is opened gives the right one once each of its messages has arrived."
    pub ends : (s : ℕ) → Opened l s (highest_in l)
        → ((m : Letter) → Memᴰ m (together l).sent → m.round ≡ highest_in l → Memᴰ (Event.arrives m) l)
        → (v : Verdict) × (verdicts_among (highest_in l) (answers l) ≡ v ∷ []) × Right w s v
    -- They do what the rules say, so that all that is said of a history is said of them: how many messages they send, for instance.
    pub by_rules : History w l × (together l ≡ since w l) × (answers l ≡ answers_of w l)
    pub many_rounds : ManyRounds w l

-- Over every accepted graph, whatever happens.
abbrev pub AllControllers : Type 0
AllControllers = (n : ℕ) (rows : List ℕ) → check_of n rows ≡ Ok tt → (l : List Event) → MayHappen n rows l → Together n rows l
