-- Many rounds: openings and deliveries one after the other, as the rules see them. Assumes nothing.
use Rattle.std.specs.Prelude.{◌≡◌, false, cond, ℕ, suc, ◌<◌, eqb, Result}
use mathlib.Core.List.{List, [], ◌∷◌, ◌++◌, Memᴰ}
use Rattle.lemmas.specs.Lists.{those}
use Rattle.records.specs.Rounds.{cannot_open}
use Rattle.records.specs.Messages.{Letter}
use Rattle.records.specs.Records.{in_round}
use Rattle.waits.specs.declared.refusals.Refusal.{Refusal}
use Rattle.waits.specs.Waits.{Waits}
use Rattle.step.specs.declared.answers.Verdict.{Verdict}
use Rattle.step.specs.declared.answers.Answer.{Answer}
use Rattle.step.specs.Step.{Outcome, seen_in, open_round}
use Rattle.rounds.specs.Course.{Stage, joined, unheard, reply}
use Rattle.rounds.specs.Verdicts.{verdict_in}

-- What happens: a node opens a round, or a message arrives.
pub data Event : Type 0 where
  opens : (i round : ℕ) → Event
  arrives : (m : Letter) → Event

-- the node where it happens, and the round that it is of
abbrev pub node_of : Event → ℕ
node_of (Event.opens i round) = i
node_of (Event.arrives m) = m.to

abbrev pub round_of : Event → ℕ
round_of (Event.opens i round) = round
round_of (Event.arrives m) = m.round

-- what the node does
abbrev pub outcome : Waits → Stage → Event → Outcome
outcome w c (Event.opens i round) = open_round (seen_in w i) round
outcome w c (Event.arrives m) = reply w c m

-- Every node's record, and every message ever sent, after the events of a list, the newest first. Fresh records are blank in
-- round 0.
unfoldable pub since : Waits → List Event → Stage
since w [] = unheard 0
since w (e ∷ l) = joined (since w l) (node_of e) (outcome w (since w l) e)

-- the highest round opened so far, which is the newest; 0 before the first
abbrev pub highest_in : List Event → ℕ
highest_in [] = 0
highest_in (Event.opens i round ∷ l) = round
highest_in (Event.arrives m ∷ l) = highest_in l

-- A history: a round is opened only at a node that there is and with a number above all before it, and only what was sent arrives, at
-- any time and again and again. What is lost is never in the list.
abbrev pub History : Waits → List Event → Type 0
History w [] = Unit {0}
History w (Event.opens i round ∷ l) = (i < w.nodes) × (cannot_open (highest_in l) round ≡ false) × History w l
History w (Event.arrives m ∷ l) = Memᴰ m (since w l).sent × History w l

-- how many rounds were opened
abbrev pub openings : List Event → ℕ
openings [] = 0
openings (Event.opens i round ∷ l) = suc (openings l)
openings (Event.arrives m ∷ l) = openings l

-- node s opened the round
abbrev pub Opened : List Event → ℕ → ℕ → Type 0
Opened l s round = Memᴰ (Event.opens s round) l

-- the messages of a round, of those sent
abbrev pub of_round : ℕ → List Letter → List Letter
of_round round = those (λ m. eqb m.round round)

-- each event with what its node answered, the newest first
abbrev pub answers_of : Waits → List Event → List (Event × Result Answer Refusal)
answers_of w [] = []
answers_of w (e ∷ l) = (e, (outcome w (since w l) e).answer) ∷ answers_of w l

-- the verdicts among the answers to events of a round
abbrev pub verdicts_among : ℕ → List (Event × Result Answer Refusal) → List Verdict
verdicts_among round [] = []
verdicts_among round (x ∷ l) = cond (eqb (round_of x.0) round) (verdict_in x.1) [] ++ verdicts_among round l

-- the verdicts that events of a round gave
unfoldable pub verdicts_of : Waits → ℕ → List Event → List Verdict
verdicts_of w round l = verdicts_among round (answers_of w l)

-- the records as they stand in a round, and its messages
abbrev pub standing : ℕ → Stage → Stage
standing round c = record { records = λ i. in_round round (c.records i); sent = of_round round c.sent }

-- every message of a round, of those sent, has arrived at least once
abbrev pub AllArrived : Waits → ℕ → List Event → Type 0
AllArrived w round l = (m : Letter) → Memᴰ m (since w l).sent → m.round ≡ round → Memᴰ (Event.arrives m) l
