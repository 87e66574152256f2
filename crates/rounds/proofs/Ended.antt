-- A round whose initiator is complete: everybody has all that they await, so nobody else is to be called or freed. Assumes nothing.
use mathlib.Core.Path.{◌≡◌, refl, sym, ◌∙◌, subst}
use mathlib.Core.Bool.{true, false}
use mathlib.Core.Logic.{inl, inr, ⊎_elim, ◌↔◌}
use mathlib.Core.List.{List, ◌∷◌, Memᴰ}
use mathlib.Core.List.Memᴰ.{head as here}
use mathlib.Core.List.Memᴰ.{tail as there}
use Prim.Native.Nat.{ℕ, ◌<◌}
use Rattle.lemmas.proofs.Tests.{not_both, true_or_false, not_true_false}
use Rattle.nodes.specs.Sets.{In, set_of}
use Rattle.nodes.proofs.Inside.{inside_member, none_in}
use Rattle.nodes.proofs.Gather.{in_list}
use Rattle.records.specs.declared.messages.Kind.{Kind}
use Rattle.records.specs.declared.messages.Kind.TheVariants.{Notify, Grant, Ack, Done}
use Rattle.records.specs.Causes.{by_itself, sender_of}
use Rattle.records.specs.Records.{State, called, free, had_of}
use Rattle.waits.specs.Waits.{Waits}
use Rattle.waits.specs.Deadlocked.{Reduction, Path, Reachable}
use Rattle.waits.specs.Deadlocked.Path.{edge, then}
use Rattle.waits.proofs.In.{in_of_lem}
use Rattle.waits.proofs.Meets.{still_holds}
use Rattle.deadlock.proofs.Paths.{reachable_node}
use Rattle.step.specs.Step.{seen_in, active, acked, complete}
use Rattle.rounds.specs.Ends.{ReductionFrom, FreedFrom}
use Rattle.rounds.proofs.Members.{happened_how, sent_notify, sent_grant, sent_ack, sent_done, acked_iff, complete_iff}
use Rattle.rounds.proofs.Orders.{oldest_first}
use Rattle.rounds.proofs.Invariant.{Says, Invariant}
use Rattle.rounds.proofs.Neighbours.{granted_by, notified_by}

abbrev pub Complete : Waits → (ℕ → State) → ℕ → Type 0
Complete w st i = complete (seen_in w i) (st i) ≡ true

abbrev pub Acked : Waits → (ℕ → State) → ℕ → Type 0
Acked w st i = acked (seen_in w i) (st i) ≡ true

pub reduction_node : (w : Waits) (l : List ℕ) (i : ℕ) → Reduction w l → Memᴰ i l → i < w.nodes
reduction_node w (x ∷ l) i r (here e) = subst (λ (y : ℕ). y < w.nodes) (sym e) r.0
reduction_node w (x ∷ l) i r (there m) = reduction_node w l i r.2 m
reduction_node w mathlib.Core.List.[] i r x'' = elim x'' [ ]

-- ---- at every time
module _ {w : Waits} {s round : ℕ} {st : ℕ → State} (v : Invariant w s round st) where
  pub called_node : (i : ℕ) → called (st i) ≡ true → i < w.nodes
  called_node i h = reachable_node w v.lawful v.initiator (v.reach i (v.called_order.listed i h))

  pub free_node : (i : ℕ) → free (st i) ≡ true → i < w.nodes
  free_node i h = reduction_node w v.frees i v.reduction.0 (v.freed_order.listed i h)

  -- through whom a node was called waits on it, and through whom it was freed it waits on
  caller_of : (i c : ℕ) → In c (sender_of (st i).call) → called (st i) ≡ true → (called (st c) ≡ true) × In i (w.out c)
  caller_of i c m h =
      let n = called_node i h in
      (sent_notify (seen_in w c) (st c) i).0 (v.took Notify c i n (inside_member _ _ c (v.formed i n).caller m)).1

  freer_of : (i j : ℕ) → In j (sender_of (st i).freed) → free (st i) ≡ true → (free (st j) ≡ true) × In i (seen_in w j).ins
  freer_of i j m h =
      let n = free_node i h in
      (sent_grant (seen_in w j) (st j) i).0 (v.took Grant j i n (inside_member _ _ j (v.formed i n).freer m)).1

  -- a node that freed itself is active, and called
  freed_itself : (i : ℕ) → free (st i) ≡ true → by_itself (st i).freed ≡ true → (active (seen_in w i) ≡ true) × (called (st i) ≡ true)
  freed_itself i h e = elim (true_or_false (active (seen_in w i))) [
    | inl a ↦ (a, sym ((v.formed i (free_node i h)).if_active a).0 ∙ h)
    | inr a ↦ absurd (not_both e ((v.formed i (free_node i h)).if_waiting a).1)
  ]

  pub active_free : (i : ℕ) → w.holds i 0 ≡ true → called (st i) ≡ true → free (st i) ≡ true
  active_free i a h = ((v.formed i (called_node i h)).if_active a).0 ∙ h

-- ---- the initiator is complete
module _ {w : Waits} {s round : ℕ} {st : ℕ → State} (v : Invariant w s round st) (end : Complete w st s) where
  -- so every called node is, in the order in which they were called: its caller has its DONE
  all_complete : (i : ℕ) → called (st i) ≡ true → Complete w st i
  all_complete = oldest_first (λ i. (st i).call) v.calls v.called_order (Complete w st) (λ i h caller.
      ⊎_elim
      (λ (o : by_itself (st i).call ≡ true). subst (Complete w st) (sym (v.opener i o)) end)
      (λ (p : (c : ℕ) × In c (sender_of (st i).call)).
      let c = caller_of v i p.0 p.1 h in
      let d = ((complete_iff (seen_in w p.0) (st p.0)).0 (caller p.0 p.1)).1 i c.1 in
      ((sent_done (seen_in w i) (st i) p.0).0 (v.took Done i p.0 (called_node v p.0 c.0) d).1).1 p.1)
      (happened_how (st i).call h))

  -- and every free node is acked, in the order in which they were freed: its freer has its ACK
  all_acked : (i : ℕ) → free (st i) ≡ true → Acked w st i
  all_acked = oldest_first (λ i. (st i).freed) v.frees v.freed_order (Acked w st) (λ i h freer.
      ⊎_elim
      (λ (o : by_itself (st i).freed ≡ true).
      let p = freed_itself v i h o in
      (acked_iff (seen_in w i) (st i)).1 (h, ((complete_iff (seen_in w i) (st i)).0 (all_complete i p.1)).2 p.0))
      (λ (p : (j : ℕ) × In j (sender_of (st i).freed)).
      let c = freer_of v i p.0 p.1 h in
      let a = ((acked_iff (seen_in w p.0) (st p.0)).0 (freer p.0 p.1)).1 i c.1 in
      ((sent_ack (seen_in w i) (st i) p.0).0 (v.took Ack i p.0 (free_node v p.0 c.0) a).1).1 p.1)
      (happened_how (st i).freed h))

  -- ---- so everything that was sent has been had: DONE and ACK by those who await them, NOTIFY and GRANT by those who answered
  pub done_had : (i j : ℕ) → called (st i) ≡ true → In j (w.out i) → In j (st i).done
  done_had i j h m = ((complete_iff (seen_in w i) (st i)).0 (all_complete i h)).1 j m

  pub ack_had : (i j : ℕ) → free (st i) ≡ true → In j (seen_in w i).ins → In j (st i).ack
  ack_had i j h m = ((acked_iff (seen_in w i) (st i)).0 (all_acked i h)).1 j m

  notify_had : (i j : ℕ) → called (st i) ≡ true → In j (w.out i) → (j < w.nodes) × In i (st j).notify
  notify_had i j h m =
      let p = v.took Done j i (called_node v i h) (done_had i j h m) in
      (p.0, ((sent_done (seen_in w j) (st j) i).0 p.1).0)

  grant_had : (i j : ℕ) → free (st i) ≡ true → In j (seen_in w i).ins → (j < w.nodes) × In i (st j).grant
  grant_had i j h m =
      let p = v.took Ack j i (free_node v i h) (ack_had i j h m) in
      (p.0, ((sent_ack (seen_in w j) (st j) i).0 p.1).0)

  pub all_had : (k : Kind) (a b : ℕ) → a < w.nodes → Says w st a k b → (b < w.nodes) × In a (had_of k (st b))
  all_had Notify a b n m = let p = (sent_notify (seen_in w a) (st a) b).0 m in notify_had a b p.0 p.1
  all_had Grant a b n m = let p = (sent_grant (seen_in w a) (st a) b).0 m in grant_had a b p.0 p.1
  all_had Ack a b n m =
      let p = granted_by v a n b m in
      let q = (sent_grant (seen_in w b) (st b) a).0 p.1 in
      (p.0, ack_had b a q.0 q.1)
  all_had Done a b n m =
      let p = notified_by v a n b m in
      let q = (sent_notify (seen_in w b) (st b) a).0 p.1 in
      (p.0, done_had b a q.0 q.1)

  -- ---- nobody else is to be called
  called_on_lem : (i j : ℕ) → called (st i) ≡ true → In j (w.out i) → called (st j) ≡ true
  called_on_lem i j h m =
      let p = notify_had i j h m in
      elim (true_or_false (called (st j))) [
        | inl e ↦ e
        | inr e ↦ absurd (none_in _ i ((v.formed j p.0).uncalled e).0 p.1)
      ]

  path_called : {i j : ℕ} → Path w i j → called (st i) ≡ true → called (st j) ≡ true
  path_called {i} {j} (edge m) h = called_on_lem i j h m
  path_called {i} (then {j = k} m p) h = path_called p (called_on_lem i k h m)

  pub called_reachable : called (st s) ≡ true → (i : ℕ) → (called (st i) ≡ true) ↔ Reachable w s i
  called_reachable h i = (
    λ e. v.reach i (v.called_order.listed i e),
    λ r. ⊎_elim (λ (e : s ≡ i). subst (λ (x : ℕ). called (st x) ≡ true) e h) (λ (p : Path w s i). path_called p h) r,
  )

  -- ---- nobody else is to be freed: a node whose condition is met by free ones had the GRANT of each
  met_free : (i g : ℕ) → i < w.nodes → w.holds i 0 ≡ false → ((j : ℕ) → In j (w.out i) → In j g → free (st j) ≡ true)
      → w.holds i g ≡ true → free (st i) ≡ true
  met_free i g n a f h =
      ((v.formed i n).if_waiting a).0 ∙ still_holds w v.lawful i g (st i).grant n (λ j o m. (grant_had j i (f j o m) ((in_of_lem w j i).1 (n, o))).1) h

  freed_free : called (st s) ≡ true → (l : List ℕ) → ReductionFrom w s l → (i : ℕ) → Memᴰ i l → free (st i) ≡ true
  freed_free h (x ∷ l) r i (here e) = subst (λ (y : ℕ). free (st y) ≡ true) (sym e) (elim (true_or_false (w.holds x 0)) [
    | inl a ↦ active_free v x a ((called_reachable h x).1 (r.1 x (here refl) a))
    | inr a ↦ met_free x (set_of l) r.0.0 a (λ j m k. freed_free h l (r.0.2, λ z n. r.1 z (there n)) j (in_list l j k)) r.0.1
  ])
  freed_free h (x ∷ l) r i (there n) = freed_free h l (r.0.2, λ z m. r.1 z (there m)) i n
  freed_free h mathlib.Core.List.[] r i x'' = elim x'' [ ]

  pub free_freed : called (st s) ≡ true → (i : ℕ) → (free (st i) ≡ true) ↔ FreedFrom w s i
  free_freed h i = (λ e. (v.frees, v.reduction, v.freed_order.listed i e), λ f. freed_free h f.0 f.1 i f.2)

  -- a called node that isn't free: its condition isn't met even if everybody grants who isn't such a node
  pub held_unmet : (i g : ℕ) → called (st i) ≡ true → free (st i) ≡ false → ((j : ℕ) → In j g → called (st j) ≡ true → free (st j) ≡ true)
      → w.holds i g ≡ false
  held_unmet i g h f out = not_true_false _ (λ e. elim (true_or_false (w.holds i 0)) [
    | inl a ↦ not_both (active_free v i a h) f
    | inr a ↦ not_both (met_free i g (called_node v i h) a (λ j m k. out j k (called_on_lem i j h m)) e) f
  ])
