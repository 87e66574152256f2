-- What is written as evidence is never refused when it is offered, and passes for the claim that it was written for. Assumes nothing.
use mathlib.Core.Path.{◌≡◌, sym, ap, subst, ◌∙◌}
use mathlib.Core.List.{List}
use Prim.Native.Nat.{ℕ}
use lib.ListN.{take}
use lib.Seq.{take_at}
use Rattle.std.specs.Prelude.{Ok}
use Rattle.lemmas.proofs.Ascending.{ascending_test}
use Rattle.waits.specs.Deadlocked.{Deadlocked}
use Rattle.waits.specs.Rows.{waits_of}
use Rattle.waits.proofs.Lawful.{accepted_lawful}
use Rattle.deadlock.specs.declared.evidence.Judged.TheVariants.{Passes}
use Rattle.deadlock.specs.Refusals.{check_node_of, check_list_of}
use Rattle.deadlock.specs.Evidence.{Evidence, WrittenSays, judged_of}
use Rattle.deadlock.proofs.Cases.{entries_nodes}
use Rattle.deadlock.proofs.Paths.{reachable_node}
use Rattle.deadlock.proofs.Passing.{reachable_passes}
use Rattle.deadlock.proofs.Judging.{judgement_passes, judged_as}
use Rattle.deadlock.proofs.Refused.{list_fine, node_accepted, room_accepted}

-- Evidence isn't refused, for whatever node it is offered.
pub evidence_accepted : (n : ℕ) (rows : List ℕ) (i : ℕ) → check_node_of n rows i ≡ Ok tt → (l : List ℕ) → Evidence (waits_of n rows) i l
    → (j : ℕ) → check_node_of n rows j ≡ Ok tt → check_list_of n rows j l ≡ Ok tt
evidence_accepted n rows i ok l evidence j asked =
    let p = node_accepted n rows i ok in
    let law = accepted_lawful n rows p.0 in
    let known = (entries_nodes n l).1 (λ k m. reachable_node (waits_of n rows) law p.1 ((evidence.members k).0 m).2) in
    list_fine n rows j l asked known (ascending_test l evidence.ascends)

-- It passes for the claim that it was written for.
pub evidence_passes : (n : ℕ) (rows : List ℕ) (i : ℕ) → check_node_of n rows i ≡ Ok tt → Deadlocked (waits_of n rows) i
    → (l : List ℕ) → Evidence (waits_of n rows) i l → judged_of n rows i l ≡ Ok Passes
evidence_passes n rows i ok dead l evidence =
    let p = node_accepted n rows i ok in
    sym (judged_as n rows i l (evidence_accepted n rows i ok l evidence i ok))
    ∙ ap Ok
    ((judgement_passes (waits_of n rows) i l).1
    (reachable_passes (waits_of n rows) (accepted_lawful n rows p.0) i l p.1 dead
    (λ j. (λ m. let t = (evidence.members j).0 m in (t.1, t.2), λ t. (evidence.members j).1 (dead, t.0, t.1)))))

-- ---- the bytes that were written
module _ (n : ℕ) (rows : List ℕ) (i : ℕ) (found left : List ℕ) (k : ℕ) (written : WrittenSays n rows i found left (Ok k)) where
  asked : check_node_of n rows i ≡ Ok tt
  asked = (room_accepted n rows i _ written.0).0

  written_evidence : Evidence (waits_of n rows) i (take k left)
  written_evidence =
      let (l, evidence, count, bytes) = written.1 in
      subst (Evidence (waits_of n rows) i) (sym (ap (take k) bytes ∙ take_at l _ k (sym count))) evidence

  -- Theorem: they are never refused, for whatever node they are offered;
  pub written_accepted : (j : ℕ) → check_node_of n rows j ≡ Ok tt → check_list_of n rows j (take k left) ≡ Ok tt
  written_accepted = evidence_accepted n rows i asked (take k left) written_evidence

  -- Theorem: and they pass for the claim, if it is deadlocked.
  pub written_passes : Deadlocked (waits_of n rows) i → judged_of n rows i (take k left) ≡ Ok Passes
  written_passes dead = evidence_passes n rows i asked dead (take k left) written_evidence
