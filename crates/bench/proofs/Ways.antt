-- The ways that a step can go: refused, a round opened, or a message that was sent arrives. Assumes nothing.
use mathlib.Core.Path.{◌≡◌, refl}
use mathlib.Core.Bool.{Bool, true, false, cond}
use Prim.Native.Nat.{ℕ, ◌≤◌, ◌<◌}
use native.Mathlib.Omega.{arith}
use lib.Dec.{eqb, leb}
use lib.ListN.{get_or}
use borrow.Author.Tests.{leb-false}
use Rattle.nodes.specs.Sets.{no_node}
use Rattle.records.specs.Rounds.{cannot_open}
use Rattle.records.specs.Messages.{letter_of}
use Rattle.waits.specs.Waits.{Waits}
use Rattle.step.specs.Step.{seen_in, open_round}
use Rattle.lent.specs.declared.steps.Step.{Step}
use Rattle.lent.specs.Coded.{message_of}
use Rattle.bench.specs.Bench.{Bench, After}
use Rattle.bench.specs.Steps.{refuse, join, open_at, arrive_at, deliver_at, take_step}
use Rattle.waits.specs.declared.refusals.Reason.{Reason}
use Rattle.waits.specs.Numbers.{reason_number}
use Rattle.waits.specs.declared.refusals.Reason.TheVariants.{NoNode, CannotOpen, NoStep}

pub data Way (w : Waits) (b : Bench) : After → Type 0 where
  refused : (why : Reason) → (9 ≤ reason_number why) × (reason_number why ≤ 11) → Way w b (refuse why b)
  opened : (i round : ℕ) → i < w.nodes → cannot_open b.highest round ≡ false → Way w b (join b round i (open_round (seen_in w i) round))
  arrived : (k : ℕ) → k < b.sent → Way w b (arrive_at w b (letter_of (message_of (get_or b.messages k 0))))

module _ (w : Waits) (b : Bench) where
  open_way : (i round : ℕ) → Way w b (open_at w b i round)
  unfolding open_at no_node
  open_way i round = go (no_node w.nodes i) (cannot_open b.highest round) refl refl
    where
      go : (p q : Bool) → no_node w.nodes i ≡ p → cannot_open b.highest round ≡ q
          → Way w b (cond p (refuse NoNode b) (cond q (refuse CannotOpen b) (join b round i (open_round (seen_in w i) round))))
      go true q e f = Way.refused NoNode (omega arith, omega arith)
      go false true e f = Way.refused CannotOpen (omega arith, omega arith)
      go false false e f = Way.opened i round (leb-false w.nodes i e) f

  deliver_way : (k : ℕ) → Way w b (deliver_at w b k)
  unfolding deliver_at
  deliver_way k = go (leb b.sent k) refl
    where
      go : (t : Bool) → leb b.sent k ≡ t → Way w b (cond t (refuse NoStep b) (arrive_at w b (letter_of (message_of (get_or b.messages k 0)))))
      go true e = Way.refused NoStep (omega arith, omega arith)
      go false e = Way.arrived k (leb-false b.sent k e)

  pub step_way : (s : Step) → Way w b (take_step w b s)
  unfolding take_step
  step_way s = go (eqb s.kind 0) (eqb s.kind 1)
    where
      go : (p q : Bool) → Way w b (cond p (open_at w b s.a s.b) (cond q (deliver_at w b s.a) (refuse NoStep b)))
      go true q = open_way s.a s.b
      go false true = deliver_way s.a
      go false false = Way.refused NoStep (omega arith, omega arith)
