-- A round in which everything sent was had: everybody has all that they await, the initiator too. Assumes nothing.
use mathlib.Core.Path.{◌≡◌}
use mathlib.Core.Bool.{true}
use Prim.Native.Nat.{ℕ, ◌<◌}
use Rattle.nodes.specs.Sets.{In}
use Rattle.records.specs.declared.messages.Kind.{Kind}
use Rattle.records.specs.declared.messages.Kind.TheVariants.{Notify, Grant, Ack, Done}
use Rattle.records.specs.Records.{State, called, free, had_of}
use Rattle.waits.specs.Waits.{Waits}
use Rattle.waits.proofs.In.{in_of_lem}
use Rattle.step.specs.Step.{seen_in}
use Rattle.rounds.proofs.Members.{sent_notify, sent_grant, sent_ack, sent_done, acked_iff, complete_iff}
use Rattle.rounds.proofs.Orders.{newest_first}
use Rattle.rounds.proofs.Invariant.{Says, Invariant}
use Rattle.rounds.proofs.Ended.{Complete, Acked, called_node, free_node, active_free}

module _ {w : Waits} {s round : ℕ} {st : ℕ → State} (v : Invariant w s round st)
    (drained : (k : Kind) (a b : ℕ) → a < w.nodes → Says w st a k b → In a (had_of k (st b))) where
  -- every free node is acked, the newest first: whom it freed has answered it, and everybody else did so at once
  acked_all : (i : ℕ) → free (st i) ≡ true → Acked w st i
  acked_all = newest_first (λ i. (st i).freed) v.frees v.freed_order (Acked w st) (λ i h freed.
      (acked_iff (seen_in w i) (st i)).1 (
        h,
        λ k m.
            let g = drained Grant i k (free_node v i h) ((sent_grant (seen_in w i) (st i) k).1 (h, m)) in
            drained Ack k i ((in_of_lem w i k).0 m).0 ((sent_ack (seen_in w k) (st k) i).1 (g, freed k)),
      ))

  -- every called node is complete, in the same way
  pub complete_all : (i : ℕ) → called (st i) ≡ true → Complete w st i
  complete_all = newest_first (λ i. (st i).call) v.calls v.called_order (Complete w st) (λ i h calls.
      let n = called_node v i h in
      (complete_iff (seen_in w i) (st i)).1 (
        h,
        λ k m.
            let g = drained Notify i k n ((sent_notify (seen_in w i) (st i) k).1 (h, m)) in
            drained Done k i (v.lawful.closed i k n m) ((sent_done (seen_in w k) (st k) i).1 (g, calls k)),
        λ a. ((acked_iff (seen_in w i) (st i)).0 (acked_all i (active_free v i a h))).1,
      ))
