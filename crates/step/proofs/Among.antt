-- A step among n nodes stays among them: what its record names, and whom it sends to. Assumes nothing.
use mathlib.Core.Path.{◌≡◌, refl, sym, subst}
use mathlib.Core.Bool.{Bool, false}
use mathlib.Core.Logic.{◌⊎◌, inl, inr}
use Prim.Native.Nat.{ℕ, ◌<◌}
use Rattle.lemmas.proofs.Cases.{both_branches}
use Rattle.nodes.specs.Sets.{Inside, below}
use Rattle.nodes.proofs.Inside.{single_below, inside_union, empty_inside}
use Rattle.records.specs.declared.causes.Why.{Why}
use Rattle.records.specs.declared.causes.Why.TheVariants.{Itself, By}
use Rattle.records.specs.declared.messages.Kind.{Kind}
use Rattle.records.specs.declared.messages.Kind.TheVariants.{Notify, Grant, Ack, Done}
use Rattle.records.specs.Causes.{strange_why}
use Rattle.records.specs.Messages.{Letter}
use Rattle.records.specs.Records.{State, blank_of, in_round, with_call, mark_of}
use Rattle.records.proofs.Marks.{mark_round}
use Rattle.records.proofs.Among.{Among, by_among, sender_among, blank_among, round_among, call_among, freed_among, mark_among}
use Rattle.step.specs.Step.{Seen, Receivers, Move, Outcome, nobody, sending, be_called, react, owed, settle, open_round, take, receive}
use Rattle.step.specs.Sent.{to_whom}
use Rattle.step.proofs.Reacts.{called_cases, react_cases}
use Rattle.step.proofs.Local.{Stays, takes_or_stays}

-- the receivers of each kind
abbrev pub ToAmong : ℕ → Receivers → Type 0
ToAmong n r = (k : Kind) → Inside (to_whom r k) (below n)

to_each : (n : ℕ) (r : Receivers) → Inside r.notify (below n) → Inside r.grant (below n) → Inside r.ack (below n) → Inside r.done (below n) → ToAmong n r
to_each n r i j k l Notify = i
to_each n r i j k l Grant = j
to_each n r i j k l Ack = k
to_each n r i j k l Done = l

module _ (n : ℕ) where
  none : Inside 0 (below n)
  none = empty_inside (below n)

  pub nobody_among : ToAmong n nobody
  nobody_among = to_each n nobody none none none none

  sending_among : (to : ℕ) → Inside to (below n) → (kind : Kind) → ToAmong n (sending kind to)
  sending_among to i Notify = to_each n _ i none none none
  sending_among to i Grant = to_each n _ none i none none
  sending_among to i Ack = to_each n _ none none i none
  sending_among to i Done = to_each n _ none none none i

-- what a record names, whom it sends to, and the round that it is in
pub record Within (n round : ℕ) (s : State) (r : Receivers) : Type 0 where
  pub names : Among n s
  pub sends : ToAmong n r
  pub in_round_lem : s.round ≡ round

abbrev Moved : ℕ → ℕ → Move → Type 0
Moved n round m = Within n round m.state m.sends

module _ (n : ℕ) (o : Seen) (out : Inside o.out (below n)) (ins : Inside o.ins (below n)) where
  module _ (s : State) (w : Among n s) where
    called_among : (by : Why) → strange_why n by ≡ false → Moved n s.round (be_called o by s)
    called_among by h = called_cases (Moved n s.round) o s by
        (λ d. record { names = call_among n s w by h; sends = sending_among n o.out out Notify; in_round_lem = refl })
        (λ d e. record { names = call_among n s w by h; sends = nobody_among n; in_round_lem = refl })
        (λ d e. record { names = freed_among n (with_call by s) (call_among n s w by h) Itself refl; sends = sending_among n o.ins ins Grant; in_round_lem = refl })

    react_among : (from : ℕ) → from < n → (kind : Kind) → Moved n s.round (react o from s kind)
    react_among from h = react_cases (Moved n s.round) o s from
        (λ c. record { names = w; sends = sending_among n _ (single_below n from h) Done; in_round_lem = refl })
        (λ c. called_among (By (record { 0 = from })) (by_among n from h))
        (λ t. record { names = freed_among n s w (By (record { 0 = from })) (by_among n from h); sends = sending_among n o.ins ins Grant; in_round_lem = refl })
        (λ t. record { names = w; sends = sending_among n _ (single_below n from h) Ack; in_round_lem = refl })
        (record { names = w; sends = nobody_among n; in_round_lem = refl })

  -- an answer that was held back
  owed_among : (b : Bool) (by : Why) → strange_why n by ≡ false → Inside (owed b by) (below n)
  unfolding owed
  owed_among b by e = both_branches (λ (x : ℕ). Inside x (below n)) b (sender_among n by e) (empty_inside (below n))

  settle_among : (round : ℕ) (before : State) (m : Move) → Moved n round m → Within n round (settle o before m).state (settle o before m).sends
  unfolding settle
  settle_among round before m w = record {
    names = w.names;
    sends = to_each n _ (w.sends Notify) (w.sends Grant)
        (inside_union _ _ _ (w.sends Ack) (owed_among _ m.state.freed w.names.freed))
        (inside_union _ _ _ (w.sends Done) (owed_among _ m.state.call w.names.call));
    in_round_lem = w.in_round_lem;
  }

  -- Theorem: an opening names and sends to nodes only, and its record is in its round.
  pub open_among : (round : ℕ) → Within n round (open_round o round).state (open_round o round).sends
  unfolding open_round
  open_among round = settle_among round (blank_of round) _ (called_among (blank_of round) (blank_among n round) Itself refl)

  take_among : (s : State) (m : Letter) → Among n s → m.from < n → Within n s.round (take o s m).state (take o s m).sends
  unfolding take
  take_among s m w h =
      let marked = mark_of m.kind m.from s in
      settle_among s.round s _
      (subst (λ (x : ℕ). Moved n x (react o m.from marked m.kind)) (mark_round m.from s m.kind)
      (react_among marked (mark_among n s w m.from h m.kind) m.from h m.kind))

  -- Theorem: so does a message from a node that is taken, and its record is in the message's round; any other changes nothing.
  pub receive_among : (r : State) (m : Letter) → Among n r → m.from < n
      → Within n (in_round m.round r).round (receive o r m).state (receive o r m).sends ⊎ Stays o r m
  receive_among r m w h = elim (takes_or_stays o r m) [
    | inl t ↦ inl (subst (λ (x : Outcome). Within n (in_round m.round r).round x.state x.sends) (sym t.0)
        (take_among (in_round m.round r) m (round_among n m.round r w) h))
    | inr s ↦ inr s
  ]
