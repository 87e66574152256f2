-- The second demand: what is answered of a list that is offered as evidence. Assumes nothing.
use mathlib.Core.Path.{◌≡◌, refl, subst}
use mathlib.Core.Bool.{true}
use mathlib.Core.Logic.{⊎_elim, ◌↔◌}
use mathlib.Core.List.Memᴰ
use mathlib.Core.List.{List, ◌∷◌, Memᴰ}
use mathlib.Core.List.Memᴰ.{head as here}
use mathlib.Core.List.Memᴰ.{tail as there}
use Prim.Native.Nat.{ℕ, ◌≤◌, ◌<◌}
use native.Mathlib.Omega.{arith}
use Rattle.std.specs.Prelude.{Ok}
use Rattle.lemmas.specs.Lists.{Ascending}
use Rattle.lemmas.proofs.Tests.{not_both}
use Rattle.lemmas.proofs.Ascending.{ascending_test, ascending_end, ascending_unique}
use Rattle.nodes.specs.declared.Node.{Node}
use Rattle.nodes.specs.Sets.{members, set_of}
use Rattle.nodes.proofs.Members.{members_ascending, members_list}
use Rattle.waits.specs.Deadlocked.{Deadlocked, outside}
use Rattle.waits.specs.Rows.{waits_of}
use Rattle.waits.proofs.Lawful.{accepted_lawful}
use Rattle.deadlock.specs.declared.evidence.Judged.{Judged}
use Rattle.deadlock.specs.declared.evidence.Judged.TheVariants.{Passes, MemberSatisfied}
use Rattle.deadlock.specs.Refusals.{check_node_of, check_list_of}
use Rattle.deadlock.specs.Evidence.{judgement, judged_of}
use Rattle.deadlock.specs.Sweeps.{knot}
use Rattle.deadlock.proofs.Cases.{entries_nodes}
use Rattle.deadlock.proofs.Refused.{node_accepted, list_accepted, list_fine}
use Rattle.deadlock.proofs.Passing.{passes_deadlocked}
use Rattle.deadlock.proofs.Judging.{judgement_passes, judgement_member, judged_said}
use Rattle.deadlock.proofs.Offered.{evidence_passes}
use Rattle.deadlock.proofs.Answers.{asked_evidence}

module _ (n : ℕ) (rows : List ℕ) (i : ℕ) where
  -- ---- a list that isn't refused
  pub answered : (l : List ℕ) → check_list_of n rows i l ≡ Ok tt → {y : Judged} → (judged_of n rows i l ≡ Ok y) ↔ (judgement (waits_of n rows) i l ≡ y)
  answered l ok {y} = (λ e. ((judged_said n rows i l y).0 e).1, λ e. (judged_said n rows i l y).1 (ok, e))

  -- ---- it is a set
  tidy : (l : List ℕ) → check_list_of n rows i l ≡ Ok tt → Ascending l
  tidy l ok = (list_accepted n rows i l ok).2

  pub set_listed : check_node_of n rows i ≡ Ok tt → (l : List ℕ)
      → (check_list_of n rows i l ≡ Ok tt) ↔ (((j : ℕ) → Memᴰ j l → j < n) × (members (set_of l) ≡ l))
  set_listed asked l = (
    λ ok. ((entries_nodes n l).0 (list_accepted n rows i l ok).1, members_list l (tidy l ok)),
    λ p. list_fine n rows i l asked ((entries_nodes n l).1 p.0) (ascending_test l (subst Ascending p.1 (members_ascending (set_of l)))),
  )

  pub list_same : (l m : List ℕ) → check_list_of n rows i l ≡ Ok tt → check_list_of n rows i m ≡ Ok tt → ((j : ℕ) → Memᴰ j l ↔ Memᴰ j m) → l ≡ m
  list_same l m ok fine = ascending_unique l m (tidy l ok) (tidy m fine)

  -- so the first member whose condition holds is the lowest
  pub first_lowest : (l : List ℕ) → check_list_of n rows i l ≡ Ok tt → (k : Node) → judged_of n rows i l ≡ Ok (MemberSatisfied k)
      → (j : ℕ) → Memᴰ j l → (waits_of n rows).holds j (outside (waits_of n rows) l) ≡ true → k.0 ≤ j
  first_lowest l ok k e j m h =
      let (before, after, parts, held, none) = ((judgement_member (waits_of n rows) i l k).0 ((answered l ok).0 e)).1 in
      let up = ascending_end before (k.0 ∷ after) (rw parts at (tidy l ok)) in
      ⊎_elim
      (λ (t : Memᴰ j before). absurd (not_both h (none j t)))
      (λ (t : Memᴰ j (k.0 ∷ after)). at_least k.0 after up.0 t)
      (Memᴰ.append_cases before (rw parts at m))
    where
      at_least : (x : ℕ) (r : List ℕ) → ((b : ℕ) → Memᴰ b r → x < b) → Memᴰ j (x ∷ r) → x ≤ j
      at_least x r above (here q) = omega arith
      at_least x r above (there t) = let b = above j t in omega arith

  -- ---- a node is deadlocked exactly if some list passes for it
  module _ (ok : check_node_of n rows i ≡ Ok tt) where
    pub some_list : Deadlocked (waits_of n rows) i ↔ ((l : List ℕ) × (judged_of n rows i l ≡ Ok Passes))
    some_list = (
      λ d. (members (knot (waits_of n rows) i), evidence_passes n rows i ok d _ (asked_evidence n rows i ok (knot (waits_of n rows) i) refl)),
      λ p.
          let said = ((judged_said n rows i p.0 Passes).0 p.1).1 in
          passes_deadlocked (waits_of n rows) (accepted_lawful n rows (node_accepted n rows i ok).0) i p.0 ((judgement_passes (waits_of n rows) i p.0).0 said),
    )
