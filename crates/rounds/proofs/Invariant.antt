-- What holds of all nodes of a round at every time, and that a step of one node keeps it, whatever the step is. Assumes nothing.
use mathlib.Core.Path.{◌≡◌, sym, ap, ◌∙◌, subst}
use mathlib.Core.Bool.{true}
use mathlib.Core.Logic.{inl, inr, ⊎_elim}
use mathlib.Core.List.{List, ◌∷◌, Memᴰ}
use mathlib.Core.List.Memᴰ.{head as here}
use mathlib.Core.List.Memᴰ.{tail as there}
use Prim.Native.Nat.{ℕ, ◌<◌}
use Rattle.lemmas.proofs.Tests.{true_or_false}
use Rattle.nodes.specs.Sets.{In, set_of}
use Rattle.nodes.proofs.Inside.{inside_member, empty_inside}
use Rattle.nodes.proofs.Gather.{list_in}
use Rattle.records.specs.declared.messages.Kind.{Kind}
use Rattle.records.specs.declared.messages.Kind.TheVariants.{Notify, Grant}
use Rattle.records.specs.Causes.{by_itself, sender_of}
use Rattle.records.specs.Records.{State, called, free, had_of}
use Rattle.waits.specs.Waits.{Waits, Lawful}
use Rattle.waits.specs.Deadlocked.{Reachable}
use Rattle.waits.proofs.Meets.{still_holds}
use Rattle.deadlock.proofs.Paths.{reachable_onward}
use Rattle.step.specs.Step.{Receivers, seen_in}
use Rattle.step.specs.Sent.{sent, Grows, Formed}
use Rattle.rounds.specs.Course.{put}
use Rattle.rounds.specs.Ends.{ReductionFrom}
use Rattle.rounds.proofs.Members.{happened_how, sent_notify, sent_grant, sent_then}
use Rattle.rounds.proofs.Put.{put_same, put_other, put_all}
use Rattle.rounds.proofs.Orders.{Order, Grown, order_step}
use Rattle.rounds.proofs.Orders.Grown.{same, newer}

-- by its record node a has sent node b a message of a kind
abbrev pub Says : Waits → (ℕ → State) → ℕ → Kind → ℕ → Type 0
Says w st a k b = In b (sent (seen_in w a) (st a) k)

-- The graph is lawful and the initiator s a node of it. Every record is in the round and can have come about. What was had was
-- sent. The nodes called are listed, each after its caller, and are reachable from s, which alone may have called itself. The
-- nodes free are listed, each after its freer, and the list is a reduction that starts only from reachable active nodes.
pub record Invariant (w : Waits) (s round : ℕ) (st : ℕ → State) : Type 0 where
  pub lawful : Lawful w
  pub initiator : s < w.nodes
  pub at : (i : ℕ) → (st i).round ≡ round
  pub formed : (i : ℕ) → i < w.nodes → Formed (seen_in w i) (st i)
  pub took : (k : Kind) (a b : ℕ) → b < w.nodes → In a (had_of k (st b)) → (a < w.nodes) × Says w st a k b
  pub calls : List ℕ
  pub called_order : Order (λ i. (st i).call) calls
  pub reach : (i : ℕ) → Memᴰ i calls → Reachable w s i
  pub opener : (i : ℕ) → by_itself (st i).call ≡ true → i ≡ s
  pub frees : List ℕ
  pub freed_order : Order (λ i. (st i).freed) frees
  pub reduction : ReductionFrom w s frees

-- Node b goes on to the record t, and sends what `now` says.
pub record Goes (w : Waits) (s round : ℕ) (st : ℕ → State) (b : ℕ) (now : Receivers) (t : State) : Type 0 where
  pub node : b < w.nodes
  pub at : t.round ≡ round
  pub formed : Formed (seen_in w b) t
  pub grows : Grows (seen_in w b) (st b) now t
  pub came : (k : Kind) (a : ℕ) → In a (had_of k t) → (a < w.nodes) × Says w st a k b
  pub call : called (st b) ≡ true → t.call ≡ (st b).call
  pub freed : free (st b) ≡ true → t.freed ≡ (st b).freed
  pub opener : by_itself t.call ≡ true → b ≡ s

module _ {w : Waits} {s round : ℕ} {st : ℕ → State} (v : Invariant w s round st) {b : ℕ} {now : Receivers} {t : State} (g : Goes w s round st b now t) where
  abbrev next : ℕ → State
  next = put st b t

  there_now : next b ≡ t
  there_now = put_same st b t

  -- ---- what was sent stays sent
  pub says_still : (a : ℕ) (k : Kind) (c : ℕ) → Says w st a k c → Says w next a k c
  says_still = put_all (λ a r. (k : Kind) (c : ℕ) → Says w st a k c → In c (sent (seen_in w a) r k)) st b t
      (λ k c m. (sent_then (seen_in w b) (st b) now t g.grows k c).1 (inl m))
      (λ a d k c m. m)

  -- ---- through whom
  caller : (j : ℕ) → In j (sender_of t.call) → (called (st j) ≡ true) × In b (w.out j)
  caller j m = (sent_notify (seen_in w j) (st j) b).0 (g.came Notify j (inside_member _ _ j g.formed.caller m)).1

  granted : (j : ℕ) → In j t.grant → free (st j) ≡ true
  granted j m = ((sent_grant (seen_in w j) (st j) b).0 (g.came Grant j m).1).0

  new_calls : (k : List ℕ) × Order (λ i. (next i).call) k × Grown (λ i. (st i).call) (λ i. (next i).call) b v.calls k
  new_calls = order_step (λ i. (st i).call) (λ i. (next i).call) b
      (λ i d. ap (λ (x : State). x.call) (put_other st b t i d))
      (λ e. ap (λ (x : State). x.call) there_now ∙ g.call e)
      (λ j m. (caller j (subst (λ (x : State). In j (sender_of x.call)) there_now m)).0)
      v.calls v.called_order

  new_frees : (k : List ℕ) × Order (λ i. (next i).freed) k × Grown (λ i. (st i).freed) (λ i. (next i).freed) b v.frees k
  new_frees = order_step (λ i. (st i).freed) (λ i. (next i).freed) b
      (λ i d. ap (λ (x : State). x.freed) (put_other st b t i d))
      (λ e. ap (λ (x : State). x.freed) there_now ∙ g.freed e)
      (λ j m. granted j (inside_member _ _ j g.formed.freer (subst (λ (x : State). In j (sender_of x.freed)) there_now m)))
      v.frees v.freed_order

  -- ---- a node that is called is reachable
  reachable : called t ≡ true → Reachable w s b
  reachable e =
      ⊎_elim
      (λ (o : by_itself t.call ≡ true). inl (sym (g.opener o)))
      (λ (p : (j : ℕ) × In j (sender_of t.call)).
      let c = caller p.0 p.1 in
      inr (reachable_onward w (v.reach p.0 (v.called_order.listed p.0 c.0)) c.1))
      (happened_how t.call e)

  reach_grown : {k : List ℕ} → Grown (λ i. (st i).call) (λ i. (next i).call) b v.calls k → (i : ℕ) → Memᴰ i k → Reachable w s i
  reach_grown same i m = v.reach i m
  reach_grown (newer e f) i (here q) = subst (Reachable w s) (sym q) (reachable (ap called (sym there_now) ∙ f))
  reach_grown (newer e f) i (there m) = v.reach i m

  -- ---- a node that is free: those free before it meet its condition, and if it is active it is reachable
  met : free t ≡ true → w.holds b (set_of v.frees) ≡ true
  met f = elim (true_or_false (w.holds b 0)) [
    | inl a ↦ v.lawful.monotone b 0 _ g.node (empty_inside _) a
    | inr a ↦ still_holds w v.lawful b t.grant _ g.node (λ j o m. list_in v.frees j (v.freed_order.listed j (granted j m))) (sym (g.formed.if_waiting a).0 ∙ f)
  ]

  starts : free t ≡ true → w.holds b 0 ≡ true → Reachable w s b
  starts f a = reachable (sym (g.formed.if_active a).0 ∙ f)

  reduction_grown : {k : List ℕ} → Grown (λ i. (st i).freed) (λ i. (next i).freed) b v.frees k → ReductionFrom w s k
  reduction_grown same = v.reduction
  reduction_grown (newer e f) = ((g.node, met is_free, v.reduction.0), from)
    where
      is_free : free t ≡ true
      is_free = ap free (sym there_now) ∙ f

      from : (i : ℕ) → Memᴰ i (b ∷ v.frees) → w.holds i 0 ≡ true → Reachable w s i
      from i (here q) a = subst (Reachable w s) (sym q) (starts is_free (subst (λ (x : ℕ). w.holds x 0 ≡ true) q a))
      from i (there m) a = v.reduction.1 i m a

  pub keep : Invariant w s round next
  keep = record {
    lawful = v.lawful;
    initiator = v.initiator;
    at = put_all (λ i r. r.round ≡ round) st b t g.at (λ i d. v.at i);
    formed = put_all (λ i r. i < w.nodes → Formed (seen_in w i) r) st b t (λ h. g.formed) (λ i d. v.formed i);
    took = λ k a. put_all (λ c r. c < w.nodes → In a (had_of k r) → (a < w.nodes) × Says w next a k c) st b t
        (λ h m. let p = g.came k a m in (p.0, says_still a k b p.1))
        (λ c d h m. let p = v.took k a c h m in (p.0, says_still a k c p.1));
    calls = new_calls.0;
    called_order = new_calls.1;
    reach = reach_grown new_calls.2;
    opener = put_all (λ i r. by_itself r.call ≡ true → i ≡ s) st b t g.opener (λ i d. v.opener i);
    frees = new_frees.0;
    freed_order = new_frees.1;
    reduction = reduction_grown new_frees.2;
  }
