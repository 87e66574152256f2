-- What the calls answer is so, from the sets that were computed. Assumes nothing.
use mathlib.Core.Path.{◌≡◌, refl, sym, ap, ◌∙◌}
use mathlib.Core.Bool.{Bool, true, false, cond}
use mathlib.Core.Logic.{inl, inr, ⊎_elim, ◌↔◌}
use mathlib.Core.List.{List, ◌++◌}
use Prim.Native.Nat.{ℕ, ◌≤◌, ◌<◌}
use native.Mathlib.Omega.{arith}
use lib.ListN.{length, drop}
use Rattle.std.specs.Prelude.{Ok}
use Rattle.lemmas.proofs.Tests.{not_both}
use Rattle.nodes.specs.Sets.{In, Inside, has, meet, with, below, members, size}
use Rattle.nodes.specs.Words.{places}
use Rattle.nodes.proofs.Bit.{bit_empty, has_in, in_has}
use Rattle.nodes.proofs.Operations.{in_meet, in_with, in_below}
use Rattle.nodes.proofs.Inside.{inside_in, inside_lt, inside_member}
use Rattle.nodes.proofs.Members.{members_in, members_ascending}
use Rattle.nodes.proofs.Size.{size_le, size_members}
use Rattle.waits.specs.Waits.{Waits, Lawful}
use Rattle.waits.specs.Deadlocked.{Deadlocked, Path, Reachable}
use Rattle.waits.specs.Rows.{waits_of, Shaped}
use Rattle.waits.specs.Numbers.{check_of}
use Rattle.waits.proofs.Table.{accepted_shaped}
use Rattle.waits.proofs.Lawful.{accepted_lawful, accepted_met}
use Rattle.deadlock.specs.Refusals.{strange_entry, check_node_of, check_list_of, check_room_of}
use Rattle.deadlock.specs.Claims.{ClaimSays}
use Rattle.deadlock.specs.Evidence.{Evidence, WrittenSays}
use Rattle.deadlock.specs.declared.ring.Report.TheVariants.{InRing, BehindRing, NotDeadlocked}
use Rattle.deadlock.specs.Ring.{LeadsTo, ReportSays}
use Rattle.deadlock.specs.Sweeps.{stuck, ahead, knot}
use Rattle.deadlock.proofs.Reduction.{stuck_iff}
use Rattle.deadlock.proofs.Paths.{path_node, reachable_node, through_first, ahead_iff}
use Rattle.deadlock.proofs.Leads.{led, leads_iff, leads_to_ring}
use Rattle.deadlock.proofs.Refused.{node_fine, node_accepted, list_accepted, room_accepted}

-- ---- over any lawful graph of waits, and a node of it
module _ (w : Waits) (law : Lawful w) (i : ℕ) (h : i < w.nodes) where
  stuck_yes : has (stuck w) i ≡ true → Deadlocked w i
  stuck_yes e = ((stuck_iff w law i).0 (has_in (stuck w) i e)).1

  stuck_no : has (stuck w) i ≡ false → Deadlocked w i → ⊥
  stuck_no e d = not_both (in_has (stuck w) i ((stuck_iff w law i).1 (h, d))) e

  pub reached : (j : ℕ) → In j (with (ahead w i) i) ↔ Reachable w i j
  reached j = (
    λ m. ⊎_elim (λ (a : In j (ahead w i)). inr ((ahead_iff w law i h j).0 a)) (λ (q : j ≡ i). inl (sym q)) ((in_with (ahead w i) i j).0 m),
    λ r. (in_with (ahead w i) i j).1 (⊎_elim (λ (q : i ≡ j). inr (sym q)) (λ (p : Path w i j). inl ((ahead_iff w law i h j).1 p)) r),
  )

  -- the evidence as a set has exactly the nodes of the evidence
  in_knot : (b : Bool) → has (stuck w) i ≡ b → (j : ℕ)
      → In j (cond b (meet (stuck w) (with (ahead w i) i)) 0) ↔ (Deadlocked w i × Deadlocked w j × Reachable w i j)
  in_knot true e j = (
    λ m. let p = (in_meet (stuck w) (with (ahead w i) i) j).0 m in (stuck_yes e, ((stuck_iff w law j).0 p.0).1, (reached j).0 p.1),
    λ t. (in_meet (stuck w) (with (ahead w i) i) j).1 ((stuck_iff w law j).1 (reachable_node w law h t.2, t.1), (reached j).1 t.2),
  )
  in_knot false e j = (λ m. absurd (let z = bit_empty j in omega arith), λ t. absurd (stuck_no e t.0))

  pub knot_iff : (j : ℕ) → In j (knot w i) ↔ (Deadlocked w i × Deadlocked w j × Reachable w i j)
  unfolding knot
  knot_iff = in_knot (has (stuck w) i) refl

  -- listed, it is the evidence
  pub knot_evidence : Evidence w i (members (knot w i))
  knot_evidence = record {
    ascends = members_ascending _;
    members = λ j. (λ m. (knot_iff j).0 ((members_in _ j).0 m), λ t. (members_in _ j).1 ((knot_iff j).1 t));
  }

-- ---- all claims of a graph that isn't refused
pub found : (n : ℕ) (rows : List ℕ) → check_of n rows ≡ Ok tt → (s : ℕ) → s ≡ stuck (waits_of n rows)
    → (k : ℕ) → In k s ↔ ((k < n) × Deadlocked (waits_of n rows) k)
found n rows ok s e k = rw e (stuck_iff (waits_of n rows) (accepted_lawful n rows ok) k)

-- ---- a node asked about, where the question isn't refused
module _ (n : ℕ) (rows : List ℕ) (i : ℕ) (ok : check_node_of n rows i ≡ Ok tt) where
  law : Lawful (waits_of n rows)
  law = accepted_lawful n rows (node_accepted n rows i ok).0

  here : i < n
  here = (node_accepted n rows i ok).1

  pub node_shaped : Shaped n rows × (i < n)
  node_shaped = (accepted_shaped n rows (node_accepted n rows i ok).0, here)

  pub is_stuck : has (stuck (waits_of n rows)) i ≡ true → Deadlocked (waits_of n rows) i
  is_stuck = stuck_yes (waits_of n rows) law i here

  pub not_stuck : has (stuck (waits_of n rows)) i ≡ false → Deadlocked (waits_of n rows) i → ⊥
  not_stuck = stuck_no (waits_of n rows) law i here

  pub claimed : {b : Bool} → has (stuck (waits_of n rows)) i ≡ b → ClaimSays n rows i (Ok b)
  claimed {b = true} e = (ok, is_stuck e)
  claimed {b = false} e = (ok, not_stuck e)

  -- where it stands, from the stuck nodes and those to which a path leads from it within them
  pub not_in_ring : has (stuck (waits_of n rows)) i ≡ false → ReportSays n rows i (Ok NotDeadlocked)
  not_in_ring e = (ok, not_stuck e)

  pub in_ring : has (stuck (waits_of n rows)) i ≡ true → has (led (waits_of n rows) i) i ≡ true → ReportSays n rows i (Ok InRing)
  in_ring e f = (ok, is_stuck e, (leads_iff (waits_of n rows) law i (has_in _ _ e) i).0 (has_in _ _ f))

  pub behind_ring : has (stuck (waits_of n rows)) i ≡ true → has (led (waits_of n rows) i) i ≡ false → ReportSays n rows i (Ok BehindRing)
  behind_ring e f = (ok, is_stuck e, λ r. not_both (in_has _ _ ((leads_iff (waits_of n rows) law i (has_in _ _ e) i).1 r)) f)

  -- Theorem: if it is deadlocked, it leads to a node that is reported as in the ring.
  pub to_ring : Deadlocked (waits_of n rows) i → (j : ℕ) × LeadsTo (waits_of n rows) i j × ReportSays n rows j (Ok InRing)
  to_ring d =
      let graph = (node_accepted n rows i ok).0 in
      let (j, l, r) = leads_to_ring (waits_of n rows) law (accepted_met n rows graph) i here d in
      (j, l, (node_fine n rows j graph (path_node (waits_of n rows) law here l.0), through_first (waits_of n rows) (Deadlocked (waits_of n rows)) r.0 r.1, r))

  knot_below : (s : ℕ) → s ≡ knot (waits_of n rows) i → Inside s (below n)
  knot_below s e = rw e (inside_in _ _ (λ j m. (in_below n j).1 (reachable_node (waits_of n rows) law here ((knot_iff (waits_of n rows) law i here j).0 m).2)))

  pub asked_evidence : (s : ℕ) → s ≡ knot (waits_of n rows) i → Evidence (waits_of n rows) i (members s)
  asked_evidence s e = rw e (knot_evidence (waits_of n rows) law i here)

-- ---- lent room
pub room_shaped : (n : ℕ) (rows : List ℕ) (i room : ℕ) → check_room_of n rows i room ≡ Ok tt → Shaped n rows × (i < n)
room_shaped n rows i room ok = node_shaped n rows i (room_accepted n rows i room ok).0

pub room_write : (n : ℕ) (rows : List ℕ) (i : ℕ) (found : List ℕ) (s : ℕ) → check_room_of n rows i (length found) ≡ Ok tt → s ≡ knot (waits_of n rows) i
    → Inside s (below n) × (n ≤ places) × (n ≤ length found)
room_write n rows i found s ok e =
    let p = room_accepted n rows i (length found) ok in
    (knot_below n rows i p.0 s e, (node_shaped n rows i p.0).0.0, p.1)

pub room_fits : (n : ℕ) (rows : List ℕ) (i : ℕ) (found : List ℕ) (s : ℕ) → check_room_of n rows i (length found) ≡ Ok tt → s ≡ knot (waits_of n rows) i
    → (size s ≤ length found) × Inside s (below places)
room_fits n rows i found s ok e =
    let (inside, small, room) = room_write n rows i found s ok e in
    (omega (arith, size_le n s (inside_lt n s inside)), inside_in _ _ (λ j m. let h = (in_below n j).0 (inside_member s (below n) j inside m) in (in_below places j).1 (omega arith)))

pub room_written : (n : ℕ) (rows : List ℕ) (i : ℕ) (found left : List ℕ) (s k : ℕ) → check_room_of n rows i (length found) ≡ Ok tt → s ≡ knot (waits_of n rows) i
    → (k ≡ size s) × (left ≡ members s ++ drop (size s) found) → WrittenSays n rows i found left (Ok k)
room_written n rows i found left s k ok e w = (
  ok,
  (
    members s,
    asked_evidence n rows i (room_accepted n rows i (length found) ok).0 s e,
    w.0 ∙ size_members s,
    w.1 ∙ ap (λ (x : ℕ). members s ++ drop x found) (sym w.0),
  ),
)

-- ---- a list that is offered
pub list_shaped : (n : ℕ) (rows : List ℕ) (i : ℕ) (l : List ℕ) → check_list_of n rows i l ≡ Ok tt → Shaped n rows × (strange_entry n l ≡ false)
list_shaped n rows i l ok = let p = list_accepted n rows i l ok in ((node_shaped n rows i p.0).0, p.1)

-- what the ring report cites
pub ruleset reporting = (node_shaped, not_in_ring, in_ring, behind_ring)
