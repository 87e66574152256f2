-- The second demand: what meets a condition, and who is called deadlocked; with what is said of lists. Assumes nothing.
use mathlib.Core.Path.{◌≡◌, refl, sym, ap, ◌∙◌}
use mathlib.Core.Bool.{true, not, true≢false}
use mathlib.Core.Logic.Iff
use mathlib.Core.Logic.{◌↔◌}
use mathlib.Core.List.{List, Memᴰ}
use Prim.Native.Nat.{ℕ, ◌≤◌}
use lib.Dec.{eqb}
use borrow.Author.Tests.{not-true, eqb-false, ne_eqb, leb-true, le-leb}
use Rattle.std.specs.Prelude.{Result, Ok, Err, Bool, false}
use Rattle.waits.specs.declared.refusals.Refusal.{Refusal}
use Rattle.lemmas.proofs.Tests.{and_intro, and_left, and_right}
use Rattle.lemmas.proofs.Any.{any_some, some_any}
use Rattle.nodes.specs.Sets.{Inside, meet, size}
use Rattle.nodes.specs.Words.{num}
use Rattle.nodes.proofs.Inside.{inside_of, of_inside}
use Rattle.waits.specs.Deadlocked.{Deadlocked}
use Rattle.waits.specs.Rows.{row_at, sets_of, lies_in, waits_of}
use Rattle.waits.proofs.Condition.{holds_0, holds_1, holds_2}
use Rattle.waits.proofs.Table.{refused_not_accepted}
use Rattle.deadlock.specs.declared.ring.Report.{Report}
use Rattle.deadlock.specs.declared.ring.Report.TheVariants.{InRing, BehindRing, NotDeadlocked}
use Rattle.deadlock.specs.Refusals.{check_node_of}
use Rattle.deadlock.specs.Claims.{ClaimSays}
use Rattle.deadlock.specs.Ring.{LeadsTo, ReportSays}
use Rattle.deadlock.proofs.Passing.{in_outside, passes_iff}
use Rattle.deadlock.proofs.Judging.{judgement_missing, judgement_passes, judgement_member}
use Rattle.deadlock.proofs.Offered.{written_accepted}
use Rattle.deadlock.proofs.Answers.{to_ring}
use Rattle.demands.specs.Demands.{Demand2}
use Rattle.demands.proofs.Offered.{answered, set_listed, list_same, first_lowest, some_list}

module _ (n : ℕ) (rows : List ℕ) (i : ℕ) where
  -- ---- the published rules
  pub threshold_met : (g : ℕ) → (row_at rows i).kind ≡ 1 → ((waits_of n rows).holds i g ≡ true) ↔ ((row_at rows i).threshold ≤ size (meet (num (row_at rows i).first) g))
  threshold_met g e = (
    λ h. leb-true _ _ (sym (holds_1 (row_at rows i) g e) ∙ h),
    λ h. holds_1 (row_at rows i) g e ∙ le-leb _ _ h,
  )

  pub set_met : (g : ℕ) → (row_at rows i).kind ≡ 2
      → ((waits_of n rows).holds i g ≡ true) ↔ ((q : ℕ) × Memᴰ q (sets_of (row_at rows i)) × (q ≡ 0 → ⊥) × Inside q g)
  unfolding lies_in
  set_met g e = (
    λ h.
        let s = any_some (λ q. lies_in q g) (sets_of (row_at rows i)) (sym (holds_2 (row_at rows i) g e) ∙ h) in (
          s.0,
          s.1,
          eqb-false s.0 0 (not-true _ (and_left (not (eqb s.0 0)) _ s.2)),
          inside_of s.0 g (and_right (not (eqb s.0 0)) _ s.2),
        ),
    λ s.
        holds_2 (row_at rows i) g e
        ∙ some_any (λ q. lies_in q g) (sets_of (row_at rows i)) s.0 s.1 (and_intro _ _ (ap not (ne_eqb s.0 0 s.2)) (of_inside s.0 g s.3)),
  )

  -- ---- claims
  pub claim_right : check_node_of n rows i ≡ Ok tt → (c : Result Bool Refusal) → ClaimSays n rows i c → (c ≡ Ok true) ↔ Deadlocked (waits_of n rows) i
  claim_right ok (Ok true) s = (λ e. s.1, λ d. refl)
  claim_right ok (Ok false) s = (λ e. absurd (true≢false (cc e)), λ d. absurd (s.1 d))
  claim_right ok (Err r) s = absurd (refused_not_accepted (sym s ∙ ok))

  pub ring_right : check_node_of n rows i ≡ Ok tt → (x : Result Report Refusal) → ReportSays n rows i x → (x ≡ Ok NotDeadlocked) ↔ (Deadlocked (waits_of n rows) i → ⊥)
  ring_right ok (Ok InRing) s = (λ e. absurd (true≢false (cc e)), λ d. absurd (d s.1))
  ring_right ok (Ok BehindRing) s = (λ e. absurd (true≢false (cc e)), λ d. absurd (d s.1))
  ring_right ok (Ok NotDeadlocked) s = (λ e. s.1, λ d. refl)
  ring_right ok (Err r) s = absurd (refused_not_accepted (sym s ∙ ok))

  pub ring_exactly : check_node_of n rows i ≡ Ok tt → Deadlocked (waits_of n rows) i → (x : Result Report Refusal) → ReportSays n rows i x → (x ≡ Ok InRing) ↔ LeadsTo (waits_of n rows) i i
  ring_exactly ok d (Ok InRing) s = (λ e. s.2, λ l. refl)
  ring_exactly ok d (Ok BehindRing) s = (λ e. absurd (true≢false (cc e)), λ l. absurd (s.2 l))
  ring_exactly ok d (Ok NotDeadlocked) s = absurd (s.1 d)
  ring_exactly ok d (Err r) s = absurd (refused_not_accepted (sym s ∙ ok))

-- Theorem: the second demand, each field by itself.
pub demand_2 : (n : ℕ) (rows : List ℕ) (i : ℕ) → Demand2 n rows i
demand_2 n rows i = record {
  active = λ g e. holds_0 (row_at rows i) g e;
  p_of_q = threshold_met n rows i;
  and_or = set_met n rows i;
  all = λ s says. says.1 i;
  claim = claim_right n rows i;
  ring = ring_right n rows i;
  in_ring = ring_exactly n rows i;
  to_ring = to_ring n rows i;
  list = λ l ok. Iff.trans (answered n rows i l ok) (Iff.trans (judgement_passes (waits_of n rows) i l) (passes_iff (waits_of n rows) i l));
  those_outside = in_outside (waits_of n rows);
  claim_missing = λ l ok. Iff.trans (answered n rows i l ok) (judgement_missing (waits_of n rows) i l);
  member_satisfied = λ l ok k. Iff.trans (answered n rows i l ok) (judgement_member (waits_of n rows) i l k);
  as_a_set = set_listed n rows i;
  one_list = list_same n rows i;
  lowest = first_lowest n rows i;
  written_accepted = written_accepted n rows i;
  link = some_list n rows i;
}
