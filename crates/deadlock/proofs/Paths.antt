-- Over any graph of waits: the nodes to which a path leads within a set are a set that can be computed; and so, if the graph is
-- lawful, are those to which any path leads. Assumes nothing.
use mathlib.Core.Path.{◌≡◌, refl, sym, ap, subst}
use mathlib.Core.Bool.{Bool, true, false, cond}
use mathlib.Core.Logic.{inl, inr, ⊎_elim, ◌↔◌}
use Prim.Native.Nat.{ℕ, ◌<◌}
use native.Mathlib.Nat.{le_refl}
use native.Mathlib.Omega.{arith}
use Rattle.nodes.specs.Sets.{bit, In, Inside, has, union, meet, below}
use Rattle.nodes.proofs.Bit.{has_in, in_has}
use Rattle.nodes.proofs.Operations.{bit_union, in_union, in_meet, in_below}
use Rattle.nodes.proofs.Inside.{inside_in, inside_member, inside_trans}
use Rattle.waits.specs.Waits.{Waits, Lawful}
use Rattle.waits.specs.Deadlocked.{Path, Reachable}
use Rattle.waits.specs.Deadlocked.Path.{edge, then}
use Rattle.deadlock.specs.Ring.{Through}
use Rattle.deadlock.specs.Sweeps.{reaching, ahead_within, ahead}
use Rattle.deadlock.proofs.Sweeps.{sweeps_keep, sweeps_settle}

-- ---- paths
module _ (w : Waits) where
  pub path_onward : {i j k : ℕ} → Path w i j → In k (w.out j) → Path w i k
  path_onward (edge e) o = then e (edge o)
  path_onward (then e p) o = then e (path_onward p o)

  pub reachable_onward : {i j k : ℕ} → Reachable w i j → In k (w.out j) → Path w i k
  reachable_onward {k = k} (inl e) o = edge (subst (λ (x : ℕ). In k (w.out x)) (sym e) o)
  reachable_onward (inr p) o = path_onward p o

  pub path_node : Lawful w → {i j : ℕ} → i < w.nodes → Path w i j → j < w.nodes
  path_node law {i} {j} h (edge e) = law.closed i j h e
  path_node law {i} {j = k} h (then {j = j} e p) = path_node law (law.closed i j h e) p

  pub reachable_node : Lawful w → {i j : ℕ} → i < w.nodes → Reachable w i j → j < w.nodes
  reachable_node law h (inl e) = subst (λ (x : ℕ). x < w.nodes) e h
  reachable_node law h (inr p) = path_node law h p

  -- ---- what holds of every node of a path
  pub through_first : (P : ℕ → Type 0) {i j : ℕ} (p : Path w i j) → Through P p → P i
  through_first P (edge e) t = t.0
  through_first P (then e p) t = t.0

  through_onward : (P : ℕ → Type 0) {i j k : ℕ} (p : Path w i j) (o : In k (w.out j)) → Through P p → P k → Through P (path_onward p o)
  unfolding path_onward
  through_onward P (edge e) o t q = (t.0, (t.1, q))
  through_onward P (then e p) o t q = (t.0, through_onward P p o t.1 q)

  pub through_both : {P Q R : ℕ → Type 0} → ((k : ℕ) → P k → Q k → R k) → {i j : ℕ} (p : Path w i j) → Through P p → Through Q p → Through R p
  through_both f {i} {j} (edge e) s t = (f i s.0 t.0, f j s.1 t.1)
  through_both f {i} (then e p) s t = (f i s.0 t.0, through_both f p s.1 t.1)

  pub through_nodes : Lawful w → {i j : ℕ} → i < w.nodes → (p : Path w i j) → Through (λ k. In k (below w.nodes)) p
  through_nodes law {i} {j} h (edge e) = ((in_below w.nodes i).1 h, (in_below w.nodes j).1 (law.closed i j h e))
  through_nodes law {i} h (then {j = j} e p) = ((in_below w.nodes i).1 h, through_nodes law (law.closed i j h e) p)

-- ---- one visit
module _ (w : Waits) (s : ℕ) where
  cond_grows : (b : Bool) (g o : ℕ) → Inside g (cond b (union g o) g)
  cond_grows true g o = λ k. omega (arith, bit_union g o k)
  cond_grows false g o = λ k. le_refl (bit g k)

  pub reaching_grows : (k g : ℕ) → Inside g (reaching w s k g)
  unfolding reaching
  reaching_grows k g = cond_grows (has g k) g (meet s (w.out k))

  -- what holds of the members of g, and of those of s in OUT of k where k is in g, holds after the visit
  cond_members : (P : ℕ → Type 0) (k g o : ℕ) → ((j : ℕ) → In j g → P j) → (In k g → (j : ℕ) → In j o → P j)
      → (b : Bool) → has g k ≡ b → (j : ℕ) → In j (cond b (union g o) g) → P j
  cond_members P k g o f q true e j m = ⊎_elim (f j) (q (has_in g k e) j) ((in_union g o j).0 m)
  cond_members P k g o f q false e j m = f j m

  reaching_members : (P : ℕ → Type 0) (k g : ℕ) → ((j : ℕ) → In j g → P j) → (In k g → (j : ℕ) → In j s → In j (w.out k) → P j)
      → (j : ℕ) → In j (reaching w s k g) → P j
  unfolding reaching
  reaching_members P k g f q = cond_members P k g (meet s (w.out k)) f (λ m j o. let b = (in_meet s (w.out k) j).0 o in q m j b.0 b.1) (has g k) refl

  pub reaching_yes : (k g : ℕ) → has g k ≡ true → union g (meet s (w.out k)) ≡ reaching w s k g
  unfolding reaching
  reaching_yes k g e = ap (λ (b : Bool). cond b (union g (meet s (w.out k))) g) (sym e)

  pub reaching_no : (k g : ℕ) → has g k ≡ false → g ≡ reaching w s k g
  unfolding reaching
  reaching_no k g e = ap (λ (b : Bool). cond b (union g (meet s (w.out k))) g) (sym e)

  reaching_out : (k g : ℕ) → In k g → Inside (meet s (w.out k)) (reaching w s k g)
  reaching_out k g m j = omega (arith, ap (λ (x : ℕ). bit x j) (reaching_yes k g (in_has g k m)), bit_union g (meet s (w.out k)) j)

-- ---- all visits
module _ (w : Waits) (s : ℕ) (nodes : Inside s (below w.nodes)) where
  reaching_stays : (k g : ℕ) → k < w.nodes → Inside g (below w.nodes) → Inside (reaching w s k g) (below w.nodes)
  reaching_stays k g h i =
      inside_in _ _ (reaching_members w s (λ (j : ℕ). In j (below w.nodes)) k g (λ j m. inside_member g _ j i m) (λ m j a o. inside_member s _ j nodes a))

  module _ (i : ℕ) where
    within_begins : Inside (meet s (w.out i)) (ahead_within w s i)
    unfolding ahead_within
    within_begins =
        sweeps_keep (reaching w s) (λ (g : ℕ). Inside (meet s (w.out i)) g) w.nodes (λ k g h p. inside_trans _ _ _ p (reaching_grows w s k g)) w.nodes
        (meet s (w.out i)) (λ k. le_refl (bit (meet s (w.out i)) k))

    within_closed : (k : ℕ) → k < w.nodes → In k (ahead_within w s i) → Inside (meet s (w.out k)) (ahead_within w s i)
    unfolding ahead_within
    within_closed k h m =
        subst (λ (x : ℕ). Inside (meet s (w.out k)) x)
        (sweeps_settle w.nodes (reaching w s) (reaching_grows w s) reaching_stays (meet s (w.out i))
        (inside_in _ _ (λ j o. inside_member s _ j nodes ((in_meet s (w.out i) j).0 o).0)) k h)
        (reaching_out w s k (ahead_within w s i) m)

    within_full : {a b : ℕ} → Inside (meet s (w.out a)) (ahead_within w s i) → (p : Path w a b) → Through (λ k. In k s) p → In b (ahead_within w s i)
    within_full {a} {b} f (edge e) t = inside_member _ _ b f ((in_meet s (w.out a) b).1 (t.1, e))
    within_full {a} f (then {j = j} e p) t =
        let m = through_first w (λ k. In k s) p t.1 in
        let at = inside_member _ _ j f ((in_meet s (w.out a) j).1 (m, e)) in
        within_full (within_closed j ((in_below w.nodes j).0 (inside_member s _ j nodes m)) at) p t.1

    module _ (here : In i s) where
      within_sound : (j : ℕ) → In j (ahead_within w s i) → (p : Path w i j) × Through (λ k. In k s) p
      unfolding ahead_within
      within_sound =
          sweeps_keep (reaching w s) (λ (g : ℕ). (j : ℕ) → In j g → (p : Path w i j) × Through (λ k. In k s) p) w.nodes
          (λ k g h f. reaching_members w s (λ j. (p : Path w i j) × Through (λ k. In k s) p) k g f
          (λ m j a o. let q = f k m in (path_onward w q.0 o, through_onward w (λ k. In k s) q.0 o q.1 a)))
          w.nodes (meet s (w.out i)) (λ j m. let b = (in_meet s (w.out i) j).0 m in (edge b.1, (here, b.0)))

      -- Theorem: the computed set has exactly the nodes to which a path leads from i through nodes of s only.
      pub within_iff : (j : ℕ) → In j (ahead_within w s i) ↔ ((p : Path w i j) × Through (λ k. In k s) p)
      within_iff j = (within_sound j, λ t. within_full within_begins t.0 t.1)

-- ---- any path
module _ (w : Waits) (law : Lawful w) (i : ℕ) (here : i < w.nodes) where
  -- Theorem: the computed set has exactly the nodes to which a path leads from i.
  pub ahead_iff : (j : ℕ) → In j (ahead w i) ↔ Path w i j
  unfolding ahead
  ahead_iff j =
      let p = within_iff w (below w.nodes) (λ k. le_refl (bit (below w.nodes) k)) i ((in_below w.nodes i).1 here) j in
      (λ m. (p.0 m).0, λ q. p.1 (q, through_nodes w law here q))
