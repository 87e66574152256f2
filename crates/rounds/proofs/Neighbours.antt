-- What was sent went along an edge, between nodes, and its receiver awaits it: it is never stray. Assumes nothing.
use mathlib.Core.Path.{◌≡◌, refl, ap, ap₂}
use mathlib.Core.Bool.{true, false, not, ◌||◌}
use Prim.Native.Nat.{ℕ, ◌<◌}
use borrow.Author.Tests.{eq-eqb}
use Rattle.nodes.specs.Sets.{In}
use Rattle.nodes.proofs.Bit.{in_has}
use Rattle.nodes.proofs.Inside.{inside_member}
use Rattle.records.specs.declared.messages.Kind.{Kind}
use Rattle.records.specs.declared.messages.Kind.TheVariants.{Notify, Grant, Ack, Done}
use Rattle.records.specs.Messages.{Letter}
use Rattle.records.specs.Records.{State}
use Rattle.waits.specs.Waits.{Waits}
use Rattle.waits.proofs.In.{in_of_lem}
use Rattle.step.specs.Step.{seen_in, neighbours, expects, stray}
use Rattle.rounds.proofs.Members.{sent_notify, sent_grant, sent_ack, sent_done}
use Rattle.rounds.proofs.Invariant.{Says, Invariant}

module _ {w : Waits} {s round : ℕ} {st : ℕ → State} (v : Invariant w s round st) where
  module _ (a : ℕ) (node : a < w.nodes) (b : ℕ) where
    waits_on : In b (w.out a) → (b < w.nodes) × In a (seen_in w b).ins
    waits_on m = (v.lawful.closed a b node m, (in_of_lem w b a).1 (node, m))

    pub along_edge : (k : Kind) → Says w st a k b → (b < w.nodes) × In a (neighbours (seen_in w b) k)
    along_edge Notify m = waits_on ((sent_notify (seen_in w a) (st a) b).0 m).1
    along_edge Grant m = (in_of_lem w a b).0 ((sent_grant (seen_in w a) (st a) b).0 m).1
    along_edge Ack m = waits_on (inside_member _ _ b ((v.formed a node).senders Grant) ((sent_ack (seen_in w a) (st a) b).0 m).0)
    along_edge Done m = (in_of_lem w a b).0 (inside_member _ _ b ((v.formed a node).senders Notify) ((sent_done (seen_in w a) (st a) b).0 m).0)

    -- an ACK answers a GRANT that was had, and a DONE a NOTIFY
    pub granted_by : Says w st a Ack b → (b < w.nodes) × Says w st b Grant a
    granted_by m = v.took Grant b a node ((sent_ack (seen_in w a) (st a) b).0 m).0

    pub notified_by : Says w st a Done b → (b < w.nodes) × Says w st b Notify a
    notified_by m = v.took Notify b a node ((sent_done (seen_in w a) (st a) b).0 m).0

    expected : (k : Kind) → Says w st a k b → expects (st b) k ≡ true
    expected Notify m = refl
    expected Grant m = refl
    expected Ack m = ((sent_grant (seen_in w b) (st b) a).0 (granted_by m).1).0
    expected Done m = ((sent_notify (seen_in w b) (st b) a).0 (notified_by m).1).0

  pub not_stray : (m : Letter) → m.from < w.nodes → Says w st m.from m.kind m.to → stray (seen_in w m.to) (st m.to) m ≡ false
  unfolding stray
  not_stray m h e =
      ap₂ ◌||◌ (ap not (eq-eqb m.to m.to refl))
      (ap₂ ◌||◌ (ap not (in_has _ _ (along_edge m.from h m.to m.kind e).1)) (ap not (expected m.from h m.to m.kind e)))
