-- Over any lawful graph of waits: a node is deadlocked exactly if some list passes for it. Assumes nothing.
use mathlib.Core.Path.{◌≡◌, refl, sym, ap, ◌∙◌}
use mathlib.Core.Bool.{Bool, true, false, not}
use mathlib.Core.Logic.{inl, inr, ⊎_elim, ◌↔◌}
use mathlib.Core.List.{List, [], ◌∷◌, Memᴰ}
use Prim.Native.Nat.{ℕ, ◌<◌}
use native.Mathlib.Omega.{arith}
use borrow.Author.Tests.{not-true}
use Rattle.lemmas.proofs.Tests.{not_both, not_true_false, and_intro, and_left, and_right}
use Rattle.lemmas.proofs.Any.{any_none}
use Rattle.nodes.specs.Sets.{bit, In, Inside, has, below, members, set_of}
use Rattle.nodes.proofs.Bit.{in_or_out, has_in, in_has}
use Rattle.nodes.proofs.Operations.{in_below, in_minus}
use Rattle.nodes.proofs.Inside.{empty_inside, inside_member, with_inside}
use Rattle.nodes.proofs.Gather.{list_in, in_list}
use Rattle.nodes.proofs.Members.{members_in}
use Rattle.waits.specs.Waits.{Waits, Lawful}
use Rattle.waits.specs.Deadlocked.{Reduction, Deadlocked, Reachable, outside, passes}
use Rattle.deadlock.specs.Sweeps.{freed, stuck}
use Rattle.deadlock.proofs.Reduction.{freed_closed, deadlocked_iff, stuck_iff}
use Rattle.deadlock.proofs.Paths.{reachable_onward, reachable_node}

-- ---- what the test says
module _ (w : Waits) where
  pub in_outside : (l : List ℕ) (k : ℕ) → In k (outside w l) ↔ ((k < w.nodes) × (Memᴰ k l → ⊥))
  unfolding outside
  in_outside l k = (
    λ m. let p = (in_minus (below w.nodes) (set_of l) k).0 m in ((in_below w.nodes k).0 p.0, λ i. p.1 (list_in l k i)),
    λ p. (in_minus (below w.nodes) (set_of l) k).1 ((in_below w.nodes k).1 p.0, λ i. p.1 (in_list l k i)),
  )

  -- Theorem: the test is the sentence: the claim is in the list, and no member's condition holds when everybody outside grants.
  pub passes_iff : (i : ℕ) (l : List ℕ)
      → (passes w i l ≡ true) ↔ (Memᴰ i l × ((j : ℕ) → Memᴰ j l → w.holds j (outside w l) ≡ false))
  unfolding passes
  passes_iff i l = (
    λ e. (
      in_list l i (has_in (set_of l) i (and_left (has (set_of l) i) _ e)),
      (any_none holds l).0 (not-true _ (and_right (has (set_of l) i) _ e)),
    ),
    λ p. and_intro (has (set_of l) i) _ (in_has (set_of l) i (list_in l i p.0))
        (ap not ((any_none holds l).1 p.1)),
  )
    where
      holds : ℕ → Bool
      holds j = w.holds j (outside w l)

module _ (w : Waits) (law : Lawful w) where
  -- ---- a list that passes: no reduction frees a member
  apart : (i : ℕ) (l : List ℕ) → passes w i l ≡ true → (r : List ℕ) → Reduction w r → Inside (set_of r) (outside w l)
  unfolding set_of
  apart i l e [] r = empty_inside (outside w l)
  apart i l e (k ∷ r) red =
      let ih = apart i l e r red.2 in
      let holds : w.holds k (outside w l) ≡ true = law.monotone k (set_of r) (outside w l) red.0 ih red.1 in
      with_inside (set_of r) k (outside w l) ih ((in_outside w l k).1 (red.0, λ n. not_both holds (((passes_iff w i l).0 e).1 k n)))

  -- Theorem: a node for which a list passes is deadlocked, whoever wrote the list.
  pub passes_deadlocked : (i : ℕ) (l : List ℕ) → passes w i l ≡ true → Deadlocked w i
  passes_deadlocked i l e r red m =
      ((in_outside w l i).0 (inside_member _ _ i (apart i l e r red) (list_in r i m))).1 ((passes_iff w i l).0 e).0

  -- ---- deadlocked nodes that have with each other all deadlocked nodes that they wait on
  module _ (l : List ℕ) (dead : (j : ℕ) → Memᴰ j l → (j < w.nodes) × Deadlocked w j)
      (whole : (j k : ℕ) → Memᴰ j l → In k (w.out j) → Deadlocked w k → Memᴰ k l) where
    -- what such a node waits on grants from outside exactly if it is freed
    same_grants : (j k : ℕ) → Memᴰ j l → In k (w.out j) → bit (outside w l) k ≡ bit (freed w) k
    same_grants j k m o =
        ⊎_elim
        (λ (f : In k (freed w)).
        (in_outside w l k).1 (law.closed j k (dead j m).0 o, λ n. (deadlocked_iff w law k).0 (dead k n).1 f) ∙ sym f)
        (λ (z : bit (freed w) k ≡ 0).
        let n = whole j k m o ((deadlocked_iff w law k).1 (λ f. omega arith)) in
        ⊎_elim
        (λ (y : In k (outside w l)). absurd (((in_outside w l k).0 y).1 n))
        (λ (y : bit (outside w l) k ≡ 0). y ∙ sym z)
        (in_or_out (outside w l) k))
        (in_or_out (freed w) k)

    unmet : (j : ℕ) → Memᴰ j l → w.holds j (outside w l) ≡ false
    unmet j m =
        let h = (dead j m).0 in
        not_true_false _ (λ t.
        (deadlocked_iff w law j).0 (dead j m).1
        (freed_closed w j h (sym (law.local j (outside w l) (freed w) h (λ k o. same_grants j k m o)) ∙ t)))

    whole_passes : (i : ℕ) → Memᴰ i l → passes w i l ≡ true
    whole_passes i m = (passes_iff w i l).1 (m, unmet)

  -- Theorem: the deadlocked nodes reachable from a deadlocked node pass for it.
  pub reachable_passes : (i : ℕ) (l : List ℕ) → i < w.nodes → Deadlocked w i
      → ((j : ℕ) → Memᴰ j l ↔ (Deadlocked w j × Reachable w i j)) → passes w i l ≡ true
  reachable_passes i l h d f =
      whole_passes l
      (λ j m. let p = (f j).0 m in (reachable_node w law h p.1, p.0))
      (λ j k m o e. (f k).1 (e, inr (reachable_onward w ((f j).0 m).1 o)))
      i ((f i).1 (d, inl refl))

  -- Theorem: all deadlocked nodes pass for each of them.
  stuck_passes : (i : ℕ) → i < w.nodes → Deadlocked w i → passes w i (members (stuck w)) ≡ true
  stuck_passes i h d =
      whole_passes (members (stuck w))
      (λ j m. (stuck_iff w law j).0 ((members_in (stuck w) j).0 m))
      (λ j k m o e. (members_in (stuck w) k).1 ((stuck_iff w law k).1 (law.closed j k ((stuck_iff w law j).0 ((members_in (stuck w) j).0 m)).0 o, e)))
      i ((members_in (stuck w) i).1 ((stuck_iff w law i).1 (h, d)))

  -- Theorem: a node is deadlocked exactly if some list passes for it.
  pub deadlocked_passes : (i : ℕ) → i < w.nodes → Deadlocked w i ↔ ((l : List ℕ) × (passes w i l ≡ true))
  deadlocked_passes i h = (λ d. (members (stuck w), stuck_passes i h d), λ p. passes_deadlocked i p.0 p.1)
