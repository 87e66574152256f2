-- Over any lawful graph of waits: the nodes that some reduction frees are a set that can be computed, and there is only one
-- such set; a node is deadlocked exactly if it isn't in it. Assumes nothing.
use mathlib.Core.Path.{◌≡◌, refl, sym, ap, ◌∙◌}
use mathlib.Core.Bool.{Bool, true, false, not, ◌&&◌}
use mathlib.Core.Logic.{◌⊎◌, inl, inr, ⊎_elim, ◌↔◌}
use mathlib.Core.List.{List, [], ◌∷◌, Memᴰ}
use Prim.Native.Nat.{ℕ, ◌<◌}
use native.Mathlib.Nat.{le_refl}
use native.Mathlib.Omega.{arith}
use Rattle.lemmas.proofs.Tests.{not_both, and_right}
use Rattle.nodes.specs.Sets.{bit, In, Inside, has, with, below, keep, set_of}
use Rattle.nodes.proofs.Bit.{has_in, in_or_out}
use Rattle.nodes.proofs.Operations.{bit_with_same, in_below, in_minus}
use Rattle.nodes.proofs.Inside.{empty_inside, inside_member, inside_both, same_nodes, with_grows, with_inside, keep_grows}
use Rattle.nodes.proofs.Gather.{list_in, in_list}
use Rattle.waits.specs.Waits.{Waits, Lawful}
use Rattle.waits.specs.Deadlocked.{Reduction, Deadlocked}
use Rattle.deadlock.specs.Sweeps.{freeing, freed, stuck}
use Rattle.deadlock.proofs.Sweeps.{sweeps_keep, sweeps_settle}

-- some reduction frees i
abbrev pub Freeable : Waits → ℕ → Type 0
Freeable w i = (l : List ℕ) × Reduction w l × Memᴰ i l

-- ---- one visit
module _ (w : Waits) where
  pub freeing_grows : (k g : ℕ) → Inside g (freeing w k g)
  unfolding freeing
  freeing_grows k g = keep_grows (w.holds k g) k g

  keep_stays : (b : Bool) (k g : ℕ) → k < w.nodes → Inside g (below w.nodes) → Inside (keep b k g) (below w.nodes)
  keep_stays true k g h i = with_inside g k (below w.nodes) i ((in_below w.nodes k).1 h)
  keep_stays false k g h i = i

  freeing_stays : (k g : ℕ) → k < w.nodes → Inside g (below w.nodes) → Inside (freeing w k g) (below w.nodes)
  unfolding freeing
  freeing_stays k g = keep_stays (w.holds k g) k g

  pub freeing_yes : (k g : ℕ) → w.holds k g ≡ true → with g k ≡ freeing w k g
  unfolding freeing
  freeing_yes k g e = ap (λ (b : Bool). keep b k g) (sym e)

  -- a node that is free already needs no visit
  kept : (k g : ℕ) → In k g → with g k ≡ g
  kept k g i = inside_both (with g k) g (with_inside g k g (λ j. le_refl (bit g j)) i) (with_grows g k)

  pub joins : (k g : ℕ) → (not (has g k) && w.holds k g) ≡ true → with g k ≡ freeing w k g
  joins k g e = freeing_yes k g (and_right (not (has g k)) _ e)

  pub joins_not : (k g : ℕ) → (not (has g k) && w.holds k g) ≡ false → g ≡ freeing w k g
  unfolding freeing
  joins_not k g = go (has g k) refl (w.holds k g)
    where
      go : (p : Bool) → has g k ≡ p → (q : Bool) → (not p && q) ≡ false → g ≡ keep q k g
      go true e true h = sym (kept k g (has_in g k e))
      go true e false h = refl
      go false e true h = absurd (not_both refl h)
      go false e false h = refl

  -- a set that some reduction frees, and it alone
  Built : ℕ → Type 0
  Built g = (l : List ℕ) × Reduction w l × (set_of l ≡ g)

  keep_built : (k g : ℕ) → k < w.nodes → Built g → (b : Bool) → w.holds k g ≡ b → Built (keep b k g)
  unfolding Built set_of
  keep_built k g h p true e = (k ∷ p.0, (h, ap (w.holds k) p.2 ∙ e, p.1), ap (λ (x : ℕ). with x k) p.2)
  keep_built k g h p false e = p

  freeing_built : (k g : ℕ) → k < w.nodes → Built g → Built (freeing w k g)
  unfolding freeing
  freeing_built k g h p = keep_built k g h p (w.holds k g) refl

  nobody_built : Built 0
  unfolding Built set_of
  nobody_built = ([], tt, refl)

  nobody_below : Inside 0 (below w.nodes)
  nobody_below = empty_inside (below w.nodes)

  -- Theorem: one reduction frees them all.
  pub freed_at_once : (l : List ℕ) × Reduction w l × (set_of l ≡ freed w)
  unfolding freed Built
  freed_at_once = sweeps_keep (freeing w) Built w.nodes freeing_built w.nodes 0 nobody_built

  freed_rests : (k : ℕ) → k < w.nodes → freeing w k (freed w) ≡ freed w
  unfolding freed
  freed_rests = sweeps_settle w.nodes (freeing w) freeing_grows freeing_stays 0 nobody_below

  -- a node whose condition holds with them granting is one of them
  pub freed_closed : (k : ℕ) → k < w.nodes → w.holds k (freed w) ≡ true → In k (freed w)
  freed_closed k h e = ap (λ (x : ℕ). bit x k) (sym (freed_rests k h)) ∙ ap (λ (x : ℕ). bit x k) (sym (freeing_yes k (freed w) e)) ∙ bit_with_same (freed w) k

-- ---- every reduction
module _ (w : Waits) (law : Lawful w) where
  pub reduction_inside : (l : List ℕ) → Reduction w l → Inside (set_of l) (freed w)
  unfolding set_of
  reduction_inside [] r = empty_inside (freed w)
  reduction_inside (k ∷ l) r =
      let ih = reduction_inside l r.2 in
      with_inside (set_of l) k (freed w) ih (freed_closed w k r.0 (law.monotone k (set_of l) (freed w) r.0 ih r.1))

  -- Theorem: the computed set has exactly the nodes that some reduction frees.
  pub freed_iff : (i : ℕ) → In i (freed w) ↔ Freeable w i
  freed_iff i = (
    λ m. let a = freed_at_once w in (a.0, a.1, in_list a.0 i (rw a.2 m)),
    λ f. inside_member (set_of f.0) (freed w) i (reduction_inside f.0 f.1) (list_in f.0 i f.2),
  )

  -- Theorem: no other set does.
  pub freed_unique : (s : ℕ) → ((i : ℕ) → In i s ↔ Freeable w i) → s ≡ freed w
  freed_unique s f = same_nodes s (freed w) f freed_iff

  -- Theorem: a node is deadlocked exactly if it isn't in that set.
  pub deadlocked_iff : (i : ℕ) → Deadlocked w i ↔ (In i (freed w) → ⊥)
  deadlocked_iff i = (λ d m. let f = (freed_iff i).0 m in d f.0 f.1 f.2, λ f l r m. f ((freed_iff i).1 (l, r, m)))

  -- Theorem: each node is one or the other, and it can be told which.
  pub deadlocked_or_freed : (i : ℕ) → Deadlocked w i ⊎ Freeable w i
  deadlocked_or_freed i =
      ⊎_elim (λ (m : In i (freed w)). inr ((freed_iff i).0 m)) (λ (z : bit (freed w) i ≡ 0). inl ((deadlocked_iff i).1 (λ m. omega arith))) (in_or_out (freed w) i)

  pub stuck_iff : (i : ℕ) → In i (stuck w) ↔ ((i < w.nodes) × Deadlocked w i)
  unfolding stuck
  stuck_iff i = (
    λ m. let p = (in_minus (below w.nodes) (freed w) i).0 m in ((in_below w.nodes i).0 p.0, (deadlocked_iff i).1 p.1),
    λ p. (in_minus (below w.nodes) (freed w) i).1 ((in_below w.nodes i).1 p.0, (deadlocked_iff i).0 p.1),
  )
