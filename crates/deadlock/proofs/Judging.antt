-- What is said of a list that is offered: the walk along its members, and what each answer means. Assumes nothing.
use mathlib.Core.Path.{◌≡◌, refl, sym, ap, ◌∙◌}
use mathlib.Core.Bool.{Bool, true, false, cond, true≢false}
use mathlib.Core.Logic.{◌⊎◌, inl, inr, ◌↔◌}
use mathlib.Core.List.Memᴰ
use mathlib.Core.List.{List, [], ◌∷◌, ◌++◌, Memᴰ}
use mathlib.Core.List.Memᴰ.{head as here}
use mathlib.Core.List.Memᴰ.{tail as there}
use Prim.Native.Nat.{ℕ, ◌+◌, ◌≤◌, ◌<◌}
use lib.ListN.{length, get_or}
use Rattle.std.specs.Prelude.{Result, Ok, Err}
use Rattle.lemmas.proofs.Tests.{not_both, not_true_false, true_or_false}
use Rattle.lemmas.proofs.Cases.{at_true, at_false, both_branches}
use Rattle.lemmas.proofs.Walks.{Left, left_next, left_passed, left_ended}
use Rattle.nodes.specs.declared.Node.{Node}
use Rattle.nodes.specs.Sets.{has, set_of}
use Rattle.nodes.proofs.Bit.{has_in, in_has}
use Rattle.nodes.proofs.Gather.{list_in, in_list}
use Rattle.waits.specs.declared.refusals.Refusal.{Refusal}
use Rattle.waits.specs.Waits.{Waits}
use Rattle.waits.specs.Deadlocked.{outside, passes}
use Rattle.waits.specs.Rows.{waits_of}
use Rattle.deadlock.specs.declared.evidence.Judged.{Judged}
use Rattle.deadlock.specs.declared.evidence.Judged.TheVariants.{Passes, ClaimMissing, MemberSatisfied}
use Rattle.deadlock.specs.Refusals.{check_list_of}
use Rattle.deadlock.specs.Evidence.{first_satisfied, judgement, judged, judged_of}
use Rattle.deadlock.proofs.Passing.{passes_iff}
use Rattle.deadlock.proofs.Cases.{entry_node, entries_nodes}
use Rattle.deadlock.proofs.Refused.{list_accepted}

module _ (w : Waits) (g : ℕ) where
  -- ---- a walk that asks one member after another: the answer is that of the members from a place on
  abbrev pub FirstLeft : List ℕ → ℕ → Type 0
  FirstLeft l at = Left (first_satisfied w g) l at

  module _ (l : List ℕ) (at : ℕ) (left : FirstLeft l at) where
    pub first_passed : at < length l → w.holds (get_or l at 0) g ≡ false → FirstLeft l (at + 1)
    first_passed h e = left_passed (first_satisfied w g) l at left h (sym (at_false _ e refl))

    pub first_found : {k : Node} → at < length l → k.0 ≡ get_or l at 0 → w.holds (get_or l at 0) g ≡ true → MemberSatisfied k ≡ first_satisfied w g l
    first_found h q e = at_true _ e (ap (λ (x : ℕ). MemberSatisfied (record { 0 = x })) q) ∙ sym (left_next (first_satisfied w g) l at left h)

    pub first_ended : length l ≤ at → Passes ≡ first_satisfied w g l
    first_ended h = left_ended (first_satisfied w g) l at left h

  -- ---- what it means
  -- no answer but these two
  first_one_of : (P : Judged → Type 0) → P Passes → ((k : Node) → P (MemberSatisfied k)) → (l : List ℕ) → P (first_satisfied w g l)
  first_one_of P p f [] = p
  first_one_of P p f (a ∷ l) = both_branches P (w.holds a g) (f (record { 0 = a })) (first_one_of P p f l)

  -- no member's condition holds
  abbrev Unsatisfied : List ℕ → Type 0
  Unsatisfied l = (j : ℕ) → Memᴰ j l → w.holds j g ≡ false

  one_more : (a : ℕ) (l : List ℕ) → w.holds a g ≡ false → Unsatisfied l → Unsatisfied (a ∷ l)
  one_more a l e h j (here q) = ap (λ (x : ℕ). w.holds x g) q ∙ e
  one_more a l e h j (there m) = h j m

  first_none : (l : List ℕ) → (first_satisfied w g l ≡ Passes) ↔ Unsatisfied l
  first_none [] = (λ e j m. absurd (elim m [ ]), λ h. refl)
  first_none (a ∷ l) = by_head (w.holds a g) refl (first_none l)
    where
      by_head : (b : Bool) → w.holds a g ≡ b → (first_satisfied w g l ≡ Passes) ↔ Unsatisfied l
          → (cond b (MemberSatisfied (record { 0 = a })) (first_satisfied w g l) ≡ Passes) ↔ Unsatisfied (a ∷ l)
      by_head true e ih = (λ q. absurd (true≢false (cc q)), λ h. absurd (not_both e (h a (here refl))))
      by_head false e ih = (λ q. one_more a l e (ih.0 q), λ h. ih.1 (λ j m. h j (there m)))

  -- k is a member whose condition holds, and no member before that place has one that does
  abbrev Foremost : List ℕ → ℕ → Type 0
  Foremost l k = (before : List ℕ) × (after : List ℕ) × (l ≡ before ++ k ∷ after) × (w.holds k g ≡ true) × Unsatisfied before

  first_member : (l : List ℕ) (k : Node) → (first_satisfied w g l ≡ MemberSatisfied k) ↔ Foremost l k.0
  first_member l k = (there_is l, λ p. ap (first_satisfied w g) p.2 ∙ said p.0 p.1 p.3 p.4)
    where
      there_is : (l : List ℕ) → first_satisfied w g l ≡ MemberSatisfied k → Foremost l k.0
      there_is [] q = absurd (true≢false (cc q))
      there_is (a ∷ l) q = by_head (w.holds a g) refl (there_is l) q
        where
          by_head : (b : Bool) → w.holds a g ≡ b → (first_satisfied w g l ≡ MemberSatisfied k → Foremost l k.0)
              → cond b (MemberSatisfied (record { 0 = a })) (first_satisfied w g l) ≡ MemberSatisfied k → Foremost (a ∷ l) k.0
          by_head true e ih q =
              let same : a ≡ k.0 = cc q in
              ([], l, ap (λ (x : ℕ). x ∷ l) same, ap (λ (x : ℕ). w.holds x g) (sym same) ∙ e, λ j m. absurd (elim m [ ]))
          by_head false e ih q = let (before, after, s, h, u) = ih q in (a ∷ before, after, ap (λ (x : List ℕ). a ∷ x) s, h, one_more a before e u)

      said : (before after : List ℕ) → w.holds k.0 g ≡ true → Unsatisfied before → first_satisfied w g (before ++ k.0 ∷ after) ≡ MemberSatisfied k
      said [] after h u = sym (at_true _ h refl)
      said (a ∷ before) after h u = sym (at_false _ (u a (here refl)) refl) ∙ said before after h (λ j m. u j (there m))

-- ---- the claim first, then the members
module _ (w : Waits) (i : ℕ) (l : List ℕ) where
  asked_members : Memᴰ i l → judgement w i l ≡ first_satisfied w (outside w l) l
  unfolding judgement
  asked_members m = sym (at_true _ (in_has (set_of l) i (list_in l i m)) refl)

  not_there : (Memᴰ i l → ⊥) → judgement w i l ≡ ClaimMissing
  unfolding judgement
  not_there h = sym (at_false _ (not_true_false _ (λ e. h (in_list l i (has_in (set_of l) i e)))) refl)

  -- Law: that the claim is missing is said exactly if it isn't in the list, whatever the members need.
  pub judgement_missing : (judgement w i l ≡ ClaimMissing) ↔ (Memᴰ i l → ⊥)
  judgement_missing = (
    λ e m. first_one_of w (outside w l) (λ x. x ≡ ClaimMissing → ⊥) (λ q. true≢false (cc q)) (λ k q. true≢false (cc q)) l (sym (asked_members m) ∙ e),
    not_there,
  )

  -- anything else is said of a list that has it, by what its members need
  of_members : {y : Judged} {Q : Type 0} → (ClaimMissing ≡ y → ⊥) → (first_satisfied w (outside w l) l ≡ y) ↔ Q → (judgement w i l ≡ y) ↔ (Memᴰ i l × Q)
  of_members {y} {Q} apart f = (λ e. by_claim e (true_or_false (has (set_of l) i)), λ p. asked_members p.0 ∙ f.1 p.1)
    where
      by_claim : judgement w i l ≡ y → (has (set_of l) i ≡ true) ⊎ (has (set_of l) i ≡ false) → Memᴰ i l × Q
      by_claim e (inl h) = let m = in_list l i (has_in (set_of l) i h) in (m, f.0 (sym (asked_members m) ∙ e))
      by_claim e (inr h) = absurd (apart (sym (not_there (λ m. not_both (in_has (set_of l) i (list_in l i m)) h)) ∙ e))

  -- Law: a list is said to pass exactly if it passes.
  pub judgement_passes : (judgement w i l ≡ Passes) ↔ (passes w i l ≡ true)
  judgement_passes =
      let said = of_members (λ q. true≢false (cc q)) (first_none w (outside w l) l) in
      let test = passes_iff w i l in
      (λ e. test.1 (said.0 e), λ e. said.1 (test.0 e))

  -- Law: a member is named exactly if the claim is in the list and it is the first whose condition holds when everybody outside grants.
  pub judgement_member : (k : Node) → (judgement w i l ≡ MemberSatisfied k) ↔ (Memᴰ i l × Foremost w (outside w l) l k.0)
  judgement_member k = of_members (λ q. true≢false (cc q)) (first_member w (outside w l) l k)

-- ---- refused, or that
module _ (n : ℕ) (rows : List ℕ) (i : ℕ) (l : List ℕ) where
  pub judged_refused : {r : Refusal} → check_list_of n rows i l ≡ Err r → Err r ≡ judged_of n rows i l
  unfolding judged_of
  judged_refused e = sym (ap (λ (x : Result Unit Refusal). judged x (judgement (waits_of n rows) i l)) e)

  pub judged_as : check_list_of n rows i l ≡ Ok tt → Ok (judgement (waits_of n rows) i l) ≡ judged_of n rows i l
  unfolding judged_of
  judged_as e = sym (ap (λ (x : Result Unit Refusal). judged x (judgement (waits_of n rows) i l)) e)

  -- Law: the answer is a refusal exactly if the list is refused with it;
  pub judged_refusal : (r : Refusal) → (judged_of n rows i l ≡ Err r) ↔ (check_list_of n rows i l ≡ Err r)
  unfolding judged_of
  judged_refusal r = by_check (check_list_of n rows i l) (judgement (waits_of n rows) i l)
    where
      by_check : (c : Result Unit Refusal) (x : Judged) → (judged c x ≡ Err r) ↔ (c ≡ Err r)
      by_check (Ok u) x = (λ e. absurd (true≢false (cc e)), λ e. absurd (true≢false (cc e)))
      by_check (Err t) x = (λ e. let same : t ≡ r = cc e in ap Err same, λ e. let same : t ≡ r = cc e in ap Err same)

  -- Law: and it is anything else exactly if the list isn't refused and that is what is said of it.
  pub judged_said : (y : Judged) → (judged_of n rows i l ≡ Ok y) ↔ ((check_list_of n rows i l ≡ Ok tt) × (judgement (waits_of n rows) i l ≡ y))
  judged_said y = (by_check (check_list_of n rows i l) refl, λ p. sym (judged_as p.0) ∙ ap Ok p.1)
    where
      by_check : (c : Result Unit Refusal) → check_list_of n rows i l ≡ c → judged_of n rows i l ≡ Ok y
          → (check_list_of n rows i l ≡ Ok tt) × (judgement (waits_of n rows) i l ≡ y)
      by_check (Ok u) q e = (q, let p : Ok (judgement (waits_of n rows) i l) ≡ Ok y = judged_as q ∙ e in cc p)
      by_check (Err t) q e = absurd (true≢false (let p : Err t ≡ Ok y = judged_refused q ∙ e in cc p))

  -- Law: the member that is named is a node of the graph.
  pub member_node : (k : Node) → judged_of n rows i l ≡ Ok (MemberSatisfied k) → k.0 < n
  member_node k e =
      let (ok, said) = (judged_said (MemberSatisfied k)).0 e in
      let (before, after, s, h, u) = ((judgement_member (waits_of n rows) i l k).0 said).1 in
      (entries_nodes n l).0 (list_accepted n rows i l ok).1 k.0 (rw s (Memᴰ.append_right before (here refl)))

-- what the walk and the check of a list cite
pub ruleset first_walk = (first_passed, first_found, first_ended, entry_node)

pub ruleset judging = (judged_refused, judged_as)
