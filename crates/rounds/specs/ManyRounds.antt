-- Many rounds are right: what is said of every history, in the paper's sentences. Assumes nothing.
use Rattle.std.specs.Prelude.{◌≡◌, ◌⊎◌, ◌↔◌, ℕ, ◌+◌, ◌*◌, ◌≤◌, length, Result}
use mathlib.Core.List.{List, [], ◌∷◌, Memᴰ}
use Rattle.nodes.specs.Sets.{In}
use Rattle.records.specs.Messages.{Letter}
use Rattle.waits.specs.declared.refusals.Refusal.{Refusal}
use Rattle.waits.specs.Waits.{Waits, edges}
use Rattle.waits.specs.Deadlocked.{Reachable}
use Rattle.deadlock.specs.Evidence.{Evidence}
use Rattle.step.specs.declared.answers.Verdict.{Verdict}
use Rattle.step.specs.declared.answers.Verdict.TheVariants.{Deadlocked}
use Rattle.step.specs.declared.answers.Answer.{Answer}
use Rattle.rounds.specs.Verdicts.{verdict_in, Right}
use Rattle.rounds.specs.Ends.{called_in, free_in, held_in, FreedFrom, leaving, entering}
use Rattle.rounds.specs.History.{Event, node_of, round_of, since, highest_in, openings, Opened, of_round, answers_of, verdicts_of, standing, AllArrived}

pub record ManyRounds (w : Waits) (l : List Event) : Type 0 where
  -- A round is opened by one node, before any message is sent in it, and the newest is the highest.
  pub one_opener : (s t round : ℕ) → Opened l s round → Opened l t round → s ≡ t
  pub higher : (s round : ℕ) → Opened l s round → round ≤ highest_in l
  pub newest : (highest_in l ≡ 0) ⊎ ((s : ℕ) × Opened l s (highest_in l))
  pub sent_opened : (m : Letter) → Memᴰ m (since w l).sent → (s : ℕ) × Opened l s m.round
  -- Only the node that opened a round gives a verdict in it. No round ever gives a false one, nor more than one.
  pub opener : (e : Event) (a : Result Answer Refusal) → Memᴰ (e, a) (answers_of w l) → (v : Verdict) → Memᴰ v (verdict_in a) → Opened l (node_of e) (round_of e)
  pub verdict_right : (s round : ℕ) → Opened l s round → (v : Verdict) → Memᴰ v (verdicts_of w round l) → Right w s v
  pub one_verdict : (round : ℕ) → length (verdicts_of w round l) ≤ 1
  -- If each message of the newest round has arrived at least once, that round has given its verdict.
  pub it_ends : (s : ℕ) → Opened l s (highest_in l) → AllArrived w (highest_in l) l → (v : Verdict) × (verdicts_of w (highest_in l) l ≡ v ∷ [])
  -- At most four messages an edge are sent in every round, and so in all.
  pub at_most_four : (round : ℕ) → length (of_round round (since w l).sent) ≤ 4 * edges w
  pub at_most_in_all : length (since w l).sent ≤ 4 * edges w * openings l
  -- A round that has given its verdict has sent exactly the paper's count, by the set of the nodes reachable from its initiator and by
  -- that of the nodes freed from there. If it is the newest, the nodes called in it are the former and the nodes free in it the latter;
  -- and if it ended deadlocked, its evidence is those called and not free.
  pub count_exactly : (s round : ℕ) → Opened l s round → (v : Verdict) → Memᴰ v (verdicts_of w round l) → (reachable : ℕ) × (freed : ℕ)
      × ((i : ℕ) → In i reachable ↔ Reachable w s i) × ((i : ℕ) → In i freed ↔ FreedFrom w s i)
      × (length (of_round round (since w l).sent) ≡ 2 * leaving w reachable + 2 * entering w freed)
  pub called_exactly : (s : ℕ) → Opened l s (highest_in l) → (v : Verdict) → Memᴰ v (verdicts_of w (highest_in l) l)
      → (i : ℕ) → In i (called_in w (standing (highest_in l) (since w l))) ↔ Reachable w s i
  pub free_exactly : (s : ℕ) → Opened l s (highest_in l) → (v : Verdict) → Memᴰ v (verdicts_of w (highest_in l) l)
      → (i : ℕ) → In i (free_in w (standing (highest_in l) (since w l))) ↔ FreedFrom w s i
  pub evidence_exactly : (s : ℕ) → Opened l s (highest_in l) → Memᴰ Deadlocked (verdicts_of w (highest_in l) l)
      → Evidence w s (held_in w (standing (highest_in l) (since w l)))
