-- What is known of every history: its rounds go up, each was opened by one node, and each is a course of its own. Assumes nothing.
use mathlib.Core.Path.{◌≡◌, sym, ap}
use mathlib.Core.Logic.{◌⊎◌, inl, inr}
use mathlib.Core.List.{List, ◌∷◌, Memᴰ}
use mathlib.Core.List.Memᴰ.{head as here}
use mathlib.Core.List.Memᴰ.{tail as there}
use Prim.Native.Nat.{ℕ, ◌≤◌, ◌<◌}
use native.Mathlib.Omega.{arith}
use Rattle.records.specs.Messages.{Letter}
use Rattle.waits.specs.Waits.{Waits}
use Rattle.rounds.specs.History.{Event, node_of, round_of, since, highest_in, Opened, verdicts_of}
use Rattle.rounds.proofs.Running.{Runs}

-- A round that s opened is a course of it; and if it is the newest, every message of it that has arrived is in the course.
pub record AsCourse (w : Waits) (l : List Event) (s round : ℕ) : Type 0 where
  pub delivered : List Letter
  pub runs : Runs w (since w l) (verdicts_of w round l) s round delivered
  pub heard : (m : Letter) → m.round ≡ round → round ≡ highest_in l → Memᴰ (Event.arrives m) l → Memᴰ m delivered

pub record Told (w : Waits) (l : List Event) : Type 0 where
  pub low : (i : ℕ) → ((since w l).records i).round ≤ highest_in l
  pub events_low : (e : Event) → Memᴰ e l → round_of e ≤ highest_in l
  pub sent_opened : (m : Letter) → Memᴰ m (since w l).sent → (s : ℕ) × Opened l s m.round
  pub node : (s round : ℕ) → Opened l s round → s < w.nodes
  pub one_opener : (s t round : ℕ) → Opened l s round → Opened l t round → s ≡ t
  pub courses : (s round : ℕ) → Opened l s round → AsCourse w l s round

-- ---- telling events apart
pub events_apart : {m : Letter} {s round : ℕ} → Event.arrives m ≡ Event.opens s round → ⊥
events_apart e = let z : ◌≡◌ {A = ℕ} 0 1 = cc e in omega arith

pub same_message : {m x : Letter} → Event.arrives m ≡ Event.arrives x → m ≡ x
same_message e = cc e

pub opened_before : {m : Letter} {l : List Event} {s round : ℕ} → Opened (Event.arrives m ∷ l) s round → Opened l s round
opened_before (here q) = absurd (events_apart (sym q))
opened_before (there h) = h

pub arrived_before : {i r : ℕ} {l : List Event} {m : Letter} → Memᴰ (Event.arrives m) (Event.opens i r ∷ l) → Memᴰ (Event.arrives m) l
arrived_before (here q) = absurd (events_apart q)
arrived_before (there h) = h

pub opened_now : {i r s round : ℕ} {l : List Event} → Opened (Event.opens i r ∷ l) s round → ((s ≡ i) × (round ≡ r)) ⊎ Opened l s round
opened_now (here q) = inl (ap node_of q, ap round_of q)
opened_now (there h) = inr h
