-- One round is right, in every course of it, over any lawful graph of waits. The step is the one that the contracts of the code
-- cite. Assumes nothing.
use mathlib.Core.Path.{◌≡◌, refl, sym, ap, ◌∙◌, subst}
use mathlib.Core.Bool.{Bool, true, false, cond}
use mathlib.Core.Logic.{◌⊎◌, inl, inr, ◌↔◌}
use mathlib.Core.List.Memᴰ
use mathlib.Core.List.{List, [], Memᴰ}
use Prim.Native.Nat.{ℕ, ◌+◌, ◌*◌, ◌<◌}
use lib.ListN.{length}
use Rattle.lemmas.proofs.Once.{once_map}
use Rattle.lemmas.proofs.Tests.{not_both, true_or_false, not_true_false}
use Rattle.nodes.specs.Sets.{In}
use Rattle.nodes.proofs.Bit.{in_has}
use Rattle.nodes.proofs.Inside.{same_nodes}
use Rattle.nodes.proofs.Members.{members_ascending}
use Rattle.records.specs.declared.messages.Kind.{Kind}
use Rattle.records.specs.Messages.{Letter}
use Rattle.records.specs.Records.{called, free, had_of}
use Rattle.waits.specs.Waits.{Waits, Lawful}
use Rattle.waits.specs.Deadlocked.{Reduction, Deadlocked, Reachable, outside, passes}
use Rattle.deadlock.specs.Evidence.{Evidence}
use Rattle.deadlock.proofs.Passing.{in_outside, passes_iff, passes_deadlocked}
use Rattle.std.specs.Prelude.{Option, Ok}
use Rattle.step.specs.declared.answers.Verdict.{Verdict}
use Rattle.step.specs.declared.answers.Answer.TheVariants.{Repeat, Taken}
use Rattle.step.specs.Step.{Outcome}
use Rattle.step.specs.Letters.{letter}
use Rattle.step.proofs.Taken.{take_answer}
use Rattle.rounds.specs.Course.{Stage, reply, after, Course, way_of, AllDelivered, ended}
use Rattle.rounds.specs.Verdicts.{Right}
use Rattle.rounds.specs.Ends.{called_in, free_in, held_in, FreedFrom, leaving, entering}
use Rattle.rounds.specs.OneRound.{OneRound}
use Rattle.rounds.proofs.Members.{itself_happened}
use Rattle.rounds.proofs.Invariant.{Says}
use Rattle.rounds.proofs.Delivery.{to_node, repeats_or_takes}
use Rattle.rounds.proofs.Courses.{Good, course_good}
use Rattle.rounds.proofs.Ended.{called_node, free_node, all_had, called_reachable, free_freed, held_unmet}
use Rattle.rounds.proofs.Alive.{complete_all}
use Rattle.rounds.proofs.Sets.{in_called, in_free, in_held}
use Rattle.rounds.proofs.Counts.{four_an_edge, all_owed}
use Rattle.rounds.proofs.Verdicts.{by_free, verdicts_are}

module _ (w : Waits) (lawful : Lawful w) (s : ℕ) (node : s < w.nodes) (round : ℕ) (l : List Letter) (course : Course w s round l) where
  abbrev now : Stage
  now = after w s round l

  good : Good w s round now l
  good = course_good w lawful s node round l course

  initiator_called : called (now.records s) ≡ true
  initiator_called = itself_happened (now.records s).call good.began

  -- the list of the nodes free is itself the reduction
  free_rightly : (i : ℕ) → free (now.records i) ≡ true → (k : List ℕ) × Reduction w k × Memᴰ i k
  free_rightly i e = (good.invariant.frees, good.invariant.reduction.0, good.invariant.freed_order.listed i e)

  -- ---- at the end
  module _ (end : ended w s now ≡ true) where
    called_exactly : (i : ℕ) → (called (now.records i) ≡ true) ↔ Reachable w s i
    called_exactly = called_reachable good.invariant end initiator_called

    free_exactly : (i : ℕ) → (free (now.records i) ≡ true) ↔ FreedFrom w s i
    free_exactly = free_freed good.invariant end initiator_called

    -- a called node outside the list of those called and not free is free
    granting : (j : ℕ) → In j (outside w (held_in w now)) → called (now.records j) ≡ true → free (now.records j) ≡ true
    granting j o c = elim (true_or_false (free (now.records j))) [
      | inl f ↦ f
      | inr f ↦ let p = (in_outside w (held_in w now) j).0 o in absurd (p.1 ((in_held w now j).1 (p.0, c, f)))
    ]

    -- so these nodes pass for each of them
    member_passes : (i : ℕ) → Memᴰ i (held_in w now) → passes w i (held_in w now) ≡ true
    member_passes i m = (passes_iff w i (held_in w now)).1 (
      m,
      λ j n.
          let h = (in_held w now j).0 n in
          held_unmet good.invariant end j (outside w (held_in w now)) h.1 h.2 granting,
    )

    member_deadlocked : (i : ℕ) → Memᴰ i (held_in w now) → Deadlocked w i
    member_deadlocked i m = passes_deadlocked w lawful i (held_in w now) (member_passes i m)

    held : free (now.records s) ≡ false → Memᴰ s (held_in w now)
    held f = (in_held w now s).1 (node, initiator_called, f)

    evidence_exactly : free (now.records s) ≡ false → Evidence w s (held_in w now)
    unfolding held_in
    evidence_exactly f = record {
      ascends = members_ascending _;
      members = λ j. (
        λ m. (member_deadlocked s (held f), member_deadlocked j m, (called_exactly j).0 ((in_held w now j).0 m).1),
        λ p.
            let c = (called_exactly j).1 p.2 in
            (in_held w now j).1 (called_node good.invariant j c, c, not_true_false _ (λ e. let r = free_rightly j e in p.1 r.0 r.1 r.2)),
      );
    }

    right_at_end : (f : Bool) → free (now.records s) ≡ f → (v : Verdict) → Memᴰ v (by_free f) → Right w s v
    right_at_end true f v m = subst (Right w s) (sym (Memᴰ.eq_of_singleton m)) (λ d. let r = free_rightly s f in d r.0 r.1 r.2)
    right_at_end false f v m = subst (Right w s) (sym (Memᴰ.eq_of_singleton m)) (member_deadlocked s (held f))

    -- as sets
    pub called_set : (i : ℕ) → In i (called_in w now) ↔ Reachable w s i
    called_set i = (
      λ m. (called_exactly i).0 ((in_called w now i).0 m).1,
      λ r. let c = (called_exactly i).1 r in (in_called w now i).1 (called_node good.invariant i c, c),
    )

    pub free_set : (i : ℕ) → In i (free_in w now) ↔ FreedFrom w s i
    free_set i = (
      λ m. (free_exactly i).0 ((in_free w now i).0 m).1,
      λ f. let c = (free_exactly i).1 f in (in_free w now i).1 (free_node good.invariant i c, c),
    )

    all_delivered : AllDelivered l now
    all_delivered m i =
        let p = good.sending.said m i in
        let h = all_had good.invariant end m.kind m.from m.to p.1 p.2 in
        Memᴰ.cast (ap (letter m.kind m.from m.to) p.0) (good.having.delivered m.to h.0 m.kind m.from h.1)

  -- ---- verdicts
  right_verdict : (e : Bool) → ended w s now ≡ e → (v : Verdict) → Memᴰ v (cond e (by_free (free (now.records s))) []) → Right w s v
  right_verdict true e v m = right_at_end e (free (now.records s)) refl v m
  right_verdict false e v m = absurd (elim m [ ])

  one_or_none : (e f : Bool) → length (cond e (by_free f) []) ≡ cond e 1 0
  one_or_none true true = refl
  one_or_none true false = refl
  one_or_none false f = refl

  -- ---- messages
  one_way : (m n : Letter) → Memᴰ m now.sent → Memᴰ n now.sent → way_of m ≡ way_of n → m ≡ n
  one_way m n i j e = λ k. record { kind = (e k).0; from = (e k).1; to = (e k).2; round = ((good.sending.said m i).0 ∙ sym (good.sending.said n j).0) k }

  drained : AllDelivered l now → (k : Kind) (a b : ℕ) → a < w.nodes → Says w now.records a k b → In a (had_of k (now.records b))
  drained all k a b n m = good.having.had (letter k a b round) (all (letter k a b round) (good.sending.listed a n k b m))

  never_stray : (m : Letter) → Memᴰ m now.sent
      → (((reply w now m).answer ≡ Ok Repeat) × Memᴰ m l) ⊎ (((v : Option Verdict) × ((reply w now m).answer ≡ Ok (Taken v))) × (Memᴰ m l → ⊥))
  never_stray m i = elim (repeats_or_takes good.invariant good.sending m i) [
    | inl p ↦ inl (ap (λ (x : Outcome). x.answer) p.0, before p.1)
    | inr p ↦ inr ((_, ap (λ (x : Outcome). x.answer) p.0 ∙ take_answer _ _ _), λ d. not_both (in_has _ _ (good.having.had m d)) p.1.1)
  ]
    where
      before : In m.from (had_of m.kind (now.records m.to)) → Memᴰ m l
      before h = Memᴰ.cast (ap (letter m.kind m.from m.to) (good.sending.said m i).0)
          (good.having.delivered m.to (to_node good.invariant good.sending m i) m.kind m.from h)

  -- Theorem: all that the paper says of a round holds at every time in every course of it.
  pub one_round : OneRound w s round l now
  one_round = record {
    free_rightly = free_rightly;
    held_passes = λ end f. member_passes end s (held end f);
    verdict_right = λ v m. right_verdict (ended w s now) refl v (subst (λ (x : List Verdict). Memᴰ v x) (verdicts_are w lawful s node round l course) m);
    one_verdict = ap (λ (x : List Verdict). length x) (verdicts_are w lawful s node round l course) ∙ one_or_none (ended w s now) (free (now.records s));
    sent_once = once_map way_of now.sent one_way good.sending.once;
    at_most_four = four_an_edge good.invariant good.sending;
    it_ends = λ all. complete_all good.invariant (drained all) s initiator_called;
    called_exactly = called_exactly;
    free_exactly = free_exactly;
    count_exactly = λ end reachable freed r f.
        all_owed good.invariant good.sending end
        ∙ λ k. 2 * leaving w (same_nodes _ _ (called_set end) r k) + 2 * entering w (same_nodes _ _ (free_set end) f k);
    all_delivered = all_delivered;
    evidence_exactly = evidence_exactly;
    never_stray = never_stray;
  }
