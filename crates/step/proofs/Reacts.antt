-- What a node does with a message, case by case: what is so of each case is so of what the node does. Assumes nothing.
use mathlib.Core.Path.{◌≡◌, refl}
use mathlib.Core.Bool.{Bool, true, false, cond, not}
use Prim.Native.Nat.{ℕ}
use Rattle.records.specs.declared.causes.Why.{Why}
use Rattle.records.specs.declared.causes.Why.TheVariants.{Itself, By}
use Rattle.records.specs.declared.messages.Kind.{Kind}
use Rattle.records.specs.declared.messages.Kind.TheVariants.{Notify, Grant, Ack, Done}
use Rattle.records.specs.Records.{State, called, free, with_call, with_freed}
use Rattle.step.specs.Step.{Seen, Move, active, nobody, sending, move, become_free, be_called, answer_with, on_notify, frees, on_grant, react}

module _ (P : Move → Type 0) (o : Seen) (s : State) where
  -- being called: a node that isn't active, an active one that is free already, and an active one that isn't
  pub called_cases : (by : Why)
      → (active o ≡ false → P (move (with_call by s) (sending Notify o.out)))
      → (active o ≡ true → free s ≡ true → P (move (with_call by s) nobody))
      → (active o ≡ true → free s ≡ false → P (move (with_freed Itself (with_call by s)) (sending Grant o.ins)))
      → P (be_called o by s)
  unfolding be_called become_free
  called_cases by waiting again first = go (active o) (free s) refl refl
    where
      go : (a f : Bool) → active o ≡ a → free s ≡ f
          → P (cond (not a) (move (with_call by s) (sending Notify o.out)) (cond f (move (with_call by s) nobody) (move (with_freed Itself (with_call by s)) (sending Grant o.ins))))
      go false f d e = waiting d
      go true true d e = again d e
      go true false d e = first d e

  module _ (a : ℕ) where
    abbrev by_a : Why
    by_a = By (record { 0 = a })

    -- NOTIFY to a node that is called, and to one that isn't
    pub notify_cases : (called s ≡ true → P (answer_with Done a s)) → (called s ≡ false → P (be_called o by_a s)) → P (on_notify o a s)
    unfolding on_notify
    notify_cases again calls = go (called s) refl
      where
        go : (c : Bool) → called s ≡ c → P (cond c (answer_with Done a s) (be_called o by_a s))
        go true e = again e
        go false e = calls e

    -- GRANT that frees, and one that doesn't
    pub grant_cases : (frees o s ≡ true → P (move (with_freed by_a s) (sending Grant o.ins))) → (frees o s ≡ false → P (answer_with Ack a s)) → P (on_grant o a s)
    unfolding on_grant become_free
    grant_cases freed again = go (frees o s) refl
      where
        go : (t : Bool) → frees o s ≡ t → P (cond t (move (with_freed by_a s) (sending Grant o.ins)) (answer_with Ack a s))
        go true e = freed e
        go false e = again e

    -- any message: the cases of NOTIFY, those of GRANT, and ACK and DONE
    pub react_cases : (called s ≡ true → P (answer_with Done a s)) → (called s ≡ false → P (be_called o by_a s))
        → (frees o s ≡ true → P (move (with_freed by_a s) (sending Grant o.ins))) → (frees o s ≡ false → P (answer_with Ack a s))
        → P (move s nobody) → (k : Kind) → P (react o a s k)
    react_cases notified calls freed granted quiet Notify = notify_cases notified calls
    react_cases notified calls freed granted quiet Grant = grant_cases freed granted
    react_cases notified calls freed granted quiet Ack = quiet
    react_cases notified calls freed granted quiet Done = quiet
