-- The ring: the nodes to which a path leads through deadlocked nodes only are a set that can be computed; and every deadlocked node
-- leads to one that is in the ring. Assumes nothing.
use mathlib.Core.Path.{◌≡◌}
use mathlib.Core.Bool.{true}
use mathlib.Core.Logic.{⊎_elim, ◌↔◌}
use Prim.Native.Nat.{ℕ, zero, suc, ◌<◌}
use native.Mathlib.Nat.{le_refl}
use native.Mathlib.Omega.{arith}
use Rattle.nodes.specs.Sets.{bit, In, Inside, minus, below, size}
use Rattle.nodes.proofs.Bit.{in_or_out}
use Rattle.nodes.proofs.Operations.{in_minus, in_below}
use Rattle.nodes.proofs.Inside.{inside_in, minus_none}
use Rattle.nodes.proofs.Members.{none_or_some}
use Rattle.nodes.proofs.Size.{size_less}
use Rattle.waits.specs.Waits.{Waits, Lawful}
use Rattle.waits.specs.Deadlocked.{Deadlocked, Path}
use Rattle.waits.specs.Deadlocked.Path.{edge, then}
use Rattle.deadlock.specs.Ring.{Through, LeadsTo, OnRing}
use Rattle.deadlock.specs.Sweeps.{freed, stuck, ahead_within}
use Rattle.deadlock.proofs.Reduction.{freed_closed, deadlocked_iff, stuck_iff}
use Rattle.deadlock.proofs.Paths.{through_both, through_nodes, within_iff}

-- the set of the nodes to which a path leads from i within the stuck ones
abbrev pub led : Waits → ℕ → ℕ
led w i = ahead_within w (stuck w) i

module _ (w : Waits) (law : Lawful w) where
  stuck_nodes : Inside (stuck w) (below w.nodes)
  stuck_nodes = inside_in _ _ (λ k m. (in_below w.nodes k).1 ((stuck_iff w law k).0 m).0)

  -- a path runs through stuck nodes exactly if it runs through deadlocked ones
  stuck_through : {i j : ℕ} → i < w.nodes → (p : Path w i j) → Through (λ k. In k (stuck w)) p ↔ Through (Deadlocked w) p
  stuck_through h p = (
    through_both w (λ k b m. ((stuck_iff w law k).0 m).1) p (through_nodes w law h p),
    through_both w (λ k b d. (stuck_iff w law k).1 ((in_below w.nodes k).0 b, d)) p (through_nodes w law h p),
  )

  -- Theorem: from a stuck node it has exactly the nodes to which a path leads through deadlocked nodes only.
  pub leads_iff : (i : ℕ) → In i (stuck w) → (j : ℕ) → In j (led w i) ↔ LeadsTo w i j
  leads_iff i m j =
      let q = within_iff w (stuck w) stuck_nodes i m j in
      let h = ((stuck_iff w law i).0 m).0 in
      (λ a. let t = q.0 a in (t.0, (stuck_through h t.0).0 t.1), λ t. q.1 (t.0, (stuck_through h t.0).1 t.1))

  -- ---- one edge, from a stuck node to a stuck node
  module _ (i j : ℕ) (m : In i (stuck w)) (o : In j (w.out i)) (s : In j (stuck w)) where
    edge_leads : LeadsTo w i j
    edge_leads = (edge o, (((stuck_iff w law i).0 m).1, ((stuck_iff w law j).0 s).1))

    onward : {k : ℕ} → LeadsTo w j k → LeadsTo w i k
    onward t = (then o t.0, (((stuck_iff w law i).0 m).1, t.1))

    -- fewer nodes lie ahead of j, if it isn't in the ring
    fewer : bit (led w j) j ≡ 0 → size (led w j) < size (led w i)
    fewer = size_less (led w j) (led w i) j (inside_in _ _ (λ k a. (leads_iff i m k).1 (onward ((leads_iff j s k).0 a)))) ((leads_iff i m j).1 edge_leads)

  -- ---- where each condition holds when all that the node waits on have granted
  module _ (met : (i : ℕ) → i < w.nodes → w.holds i (w.out i) ≡ true) where
    -- a stuck node waits on one: else all that it waits on are freed, and so is it
    waits_on_stuck : (i : ℕ) → In i (stuck w) → (j : ℕ) × In j (w.out i) × In j (stuck w)
    waits_on_stuck i m =
        let (h, d) = (stuck_iff w law i).0 m in
        ⊎_elim
        (λ z. absurd ((deadlocked_iff w law i).0 d (freed_closed w i h (law.monotone i (w.out i) (freed w) h (minus_none _ _ z) (met i h)))))
        (λ (p : (j : ℕ) × In j (minus (w.out i) (freed w))).
        let (o, f) = (in_minus (w.out i) (freed w) p.0).0 p.1 in
        (p.0, o, (stuck_iff w law p.0).1 (law.closed i p.0 h o, (deadlocked_iff w law p.0).1 f)))
        (none_or_some (minus (w.out i) (freed w)))

    -- going on to it, either it is in the ring, or fewer nodes lie ahead
    goes_on : (b i : ℕ) → In i (stuck w) → size (led w i) < b → (j : ℕ) × LeadsTo w i j × OnRing w j
    goes_on zero i m h = absurd (omega arith)
    goes_on (suc b) i m h =
        let (j, o, s) = waits_on_stuck i m in
        let later = goes_on b j s in
        ⊎_elim
        (λ (a : In j (led w j)). (j, edge_leads i j m o s, (leads_iff j s j).0 a))
        (λ (z : bit (led w j) j ≡ 0).
        let r = later (omega (arith, fewer i j m o s z)) in
        (r.0, onward i j m o s r.1, r.2))
        (in_or_out (led w j) j)

    -- Theorem: every deadlocked node leads, through deadlocked nodes only, to one that is in the ring.
    pub leads_to_ring : (i : ℕ) → i < w.nodes → Deadlocked w i → (j : ℕ) × LeadsTo w i j × OnRing w j
    leads_to_ring i h d = goes_on _ i ((stuck_iff w law i).1 (h, d)) (le_refl _)
