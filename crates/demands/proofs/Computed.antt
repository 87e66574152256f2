-- From sets that can be computed to what is said of a morning: who is deadlocked, the evidence, and a full round. Assumes nothing.
use mathlib.Core.Path.{◌≡◌, sym, ap, ◌∙◌, subst}
use mathlib.Core.Bool.{Bool, true, cond}
use mathlib.Core.Logic.{◌↔◌}
use mathlib.Core.List.{List, [], ◌∷◌, Memᴰ}
use Prim.Native.Nat.{ℕ, ◌+◌, ◌*◌, ◌<◌}
use lib.ListN.{length}
use Rattle.std.specs.Prelude.{Ok}
use Rattle.lemmas.proofs.Tests.{same_test}
use Rattle.nodes.specs.Sets.{In, has, with, inside, members, gather}
use Rattle.nodes.proofs.Bit.{has_in, in_has}
use Rattle.nodes.proofs.Inside.{inside_of, inside_member}
use Rattle.nodes.proofs.Gather.{gather_in}
use Rattle.nodes.proofs.Members.{members_in}
use Rattle.records.specs.Messages.{Letter}
use Rattle.records.specs.Records.{free}
use Rattle.waits.specs.Waits.{Waits, Lawful, edges}
use Rattle.waits.specs.Deadlocked.{Reachable}
use Rattle.waits.specs.Rows.{waits_of}
use Rattle.waits.specs.Numbers.{check_of}
use Rattle.waits.proofs.Lawful.{accepted_lawful}
use Rattle.deadlock.specs.Evidence.{Evidence}
use Rattle.deadlock.specs.Sweeps.{freed, stuck, ahead, knot}
use Rattle.deadlock.proofs.Reduction.{freed_iff, stuck_iff}
use Rattle.deadlock.proofs.Answers.{reached, knot_evidence}
use Rattle.step.specs.declared.answers.Verdict.{Verdict}
use Rattle.rounds.specs.Course.{after, Course, ended}
use Rattle.rounds.specs.Verdicts.{verdicts}
use Rattle.rounds.specs.Ends.{FreedFrom, leaving, entering}
use Rattle.rounds.proofs.Ended.{reduction_node}
use Rattle.rounds.proofs.Verdicts.{by_free, verdicts_are}
use Rattle.rounds.proofs.OneRound.{one_round}
use Rattle.rounds.proofs.CanEnd.{can_end}
use Rattle.demands.specs.Table.{Morning, FullRound}

-- ---- A round whose initiator reaches every active node, which is a test: every reduction starts only from active nodes that it
-- reaches, and so the nodes that its count asks for are all that can be freed.
module _ (w : Waits) (lawful : Lawful w) (s : ℕ) (node : s < w.nodes)
    (all : inside (gather (λ i. w.holds i 0) w.nodes) (with (ahead w s) s) ≡ true) where
  active_reached : (i : ℕ) → i < w.nodes → w.holds i 0 ≡ true → Reachable w s i
  active_reached i h e = (reached w lawful s node i).0 (inside_member _ _ i (inside_of _ _ all) (gather_in (λ j. w.holds j 0) w.nodes i h e))

  freed_from : (i : ℕ) → In i (freed w) ↔ FreedFrom w s i
  freed_from i = (
    λ m. let f = (freed_iff w lawful i).0 m in (f.0, (f.1, λ j k e. active_reached j (reduction_node w f.0 j f.1 k) e), f.2),
    λ f. (freed_iff w lawful i).1 (f.0, f.1.0, f.2),
  )

  module _ (round : ℕ) (l : List Letter) (course : Course w s round l) (end : ended w s (after w s round l) ≡ true) where
    sent_exactly : length (after w s round l).sent ≡ 2 * leaving w (with (ahead w s) s) + 2 * entering w (freed w)
    sent_exactly = (one_round w lawful s node round l course).count_exactly end _ _ (reached w lawful s node) freed_from

    free_or_not : free ((after w s round l).records s) ≡ has (freed w) s
    free_or_not =
        let f = (one_round w lawful s node round l course).free_exactly end s in
        same_test _ _ (λ e. in_has _ _ ((freed_from s).1 (f.0 e))) (λ e. f.1 ((freed_from s).0 (has_in _ _ e)))

    said_exactly : verdicts w s round l ≡ by_free (has (freed w) s)
    said_exactly =
        verdicts_are w lawful s node round l course
        ∙ ap (λ (e : Bool). cond e (by_free (free ((after w s round l).records s))) []) end
        ∙ ap by_free free_or_not

-- ---- a graph that is accepted
module _ (n : ℕ) (rows : List ℕ) (ok : check_of n rows ≡ Ok tt) where
  abbrev w : Waits
  w = waits_of n rows

  lawful : Lawful (waits_of n rows)
  lawful = accepted_lawful n rows ok

  -- Law: the stuck nodes, listed, are those deadlocked.
  pub morning : {count : ℕ} {dead : List ℕ} → edges w ≡ count → members (stuck w) ≡ dead → Morning n rows count dead
  morning e d = record {
    accepted = ok;
    edge_count = e;
    deadlocked = λ i. (
      λ p. subst (λ (l : List ℕ). Memᴰ i l) d ((members_in (stuck w) i).1 ((stuck_iff w lawful i).1 p)),
      λ m. (stuck_iff w lawful i).0 ((members_in (stuck w) i).0 (subst (λ (l : List ℕ). Memᴰ i l) (sym d) m)),
    );
  }

  module _ (s : ℕ) (node : s < n) where
    -- Law: the knot, listed, is the evidence.
    pub evidence : {l : List ℕ} → members (knot w s) ≡ l → Evidence w s l
    evidence e = subst (Evidence w s) e (knot_evidence w lawful s node)

    -- Law: two messages for each edge that leaves a node reached or enters one freed, and the verdict says whether s is freed.
    pub full_round : {count : ℕ} {v : Verdict} → inside (gather (λ i. w.holds i 0) n) (with (ahead w s) s) ≡ true
        → 2 * leaving w (with (ahead w s) s) + 2 * entering w (freed w) ≡ count → by_free (has (freed w) s) ≡ v ∷ []
        → FullRound n rows s count v
    full_round all c v = record {
      every = λ round l course end. (
        sent_exactly w lawful s node all round l course end ∙ c,
        said_exactly w lawful s node all round l course end ∙ v,
      );
      can_end = λ round. can_end w lawful s node round;
    }
