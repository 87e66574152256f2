-- One round is right: what the paper says of a round, in its own sentences. Assumes nothing.
use Rattle.std.specs.Prelude.{◌≡◌, true, false, cond, ◌⊎◌, ◌↔◌, ℕ, ◌+◌, ◌*◌, ◌≤◌, length, Option, Ok}
use mathlib.Core.List.{List, map, Memᴰ}
use Rattle.lemmas.specs.Lists.{Once}
use Rattle.nodes.specs.Sets.{In}
use Rattle.records.specs.Messages.{Letter}
use Rattle.records.specs.Records.{called, free}
use Rattle.waits.specs.Waits.{Waits, edges}
use Rattle.waits.specs.Deadlocked.{Reduction, Reachable, passes}
use Rattle.deadlock.specs.Evidence.{Evidence}
use Rattle.step.specs.declared.answers.Verdict.{Verdict}
use Rattle.step.specs.declared.answers.Answer.TheVariants.{Repeat, Taken}
use Rattle.rounds.specs.Course.{Stage, reply, way_of, AllDelivered, ended}
use Rattle.rounds.specs.Verdicts.{verdicts, Right}
use Rattle.rounds.specs.Ends.{held_in, FreedFrom, leaving, entering}

-- Of a round that node s opened: l are the messages delivered so far, the newest first, and now is the state since then.
pub record OneRound (w : Waits) (s round : ℕ) (l : List Letter) (now : Stage) : Type 0 where
  -- No false verdict. A node is free only if some reduction frees it. If the round has ended and its initiator isn't free, the
  -- nodes called and not free pass as evidence for it. So every verdict given is right; and one is given by the step that ends the
  -- round, and none before or after.
  pub free_rightly : (i : ℕ) → free (now.records i) ≡ true → (k : List ℕ) × Reduction w k × Memᴰ i k
  pub held_passes : ended w s now ≡ true → free (now.records s) ≡ false → passes w s (held_in w now) ≡ true
  pub verdict_right : (v : Verdict) → Memᴰ v (verdicts w s round l) → Right w s v
  pub one_verdict : length (verdicts w s round l) ≡ cond (ended w s now) 1 0
  -- At most once. No kind goes twice from one node to another, and so at most four messages go along an edge.
  pub sent_once : Once (map way_of now.sent)
  pub at_most_four : length now.sent ≤ 4 * edges w
  -- It ends. When every message sent has been delivered at least once, the round has ended.
  pub it_ends : AllDelivered l now → ended w s now ≡ true
  -- What the end looks like. Called are exactly the nodes reachable from the initiator; free are exactly those freed by a reduction
  -- that starts only from reachable active nodes; two messages went for each edge that leaves one of the former, two for each that
  -- enters one of the latter, and no others; every one has been delivered; and an initiator that isn't free has as its evidence the
  -- nodes called and not free.
  pub called_exactly : ended w s now ≡ true → (i : ℕ) → (called (now.records i) ≡ true) ↔ Reachable w s i
  pub free_exactly : ended w s now ≡ true → (i : ℕ) → (free (now.records i) ≡ true) ↔ FreedFrom w s i
  pub count_exactly : ended w s now ≡ true → (reachable freed : ℕ)
      → ((i : ℕ) → In i reachable ↔ Reachable w s i) → ((i : ℕ) → In i freed ↔ FreedFrom w s i)
      → length now.sent ≡ 2 * leaving w reachable + 2 * entering w freed
  pub all_delivered : ended w s now ≡ true → AllDelivered l now
  pub evidence_exactly : ended w s now ≡ true → free (now.records s) ≡ false → Evidence w s (held_in w now)
  -- Stray never happens to a message that was sent in the round, nor does old: it is a repeat if it was delivered before, and is
  -- taken if it wasn't.
  pub never_stray : (m : Letter) → Memᴰ m now.sent
      → (((reply w now m).answer ≡ Ok Repeat) × Memᴰ m l) ⊎ (((v : Option Verdict) × ((reply w now m).answer ≡ Ok (Taken v))) × (Memᴰ m l → ⊥))
