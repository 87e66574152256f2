-- The nodes that call and free keep their places in a set through a step. Assumes nothing.
use mathlib.Core.Path.{◌≡◌}
use Prim.Native.Nat.{ℕ, ◌<◌}
use Rattle.nodes.specs.Words.{places}
use Rattle.records.specs.declared.causes.Why.{Why}
use Rattle.records.specs.declared.causes.Why.TheVariants.{Not, Itself, By}
use Rattle.records.specs.declared.messages.Kind.{Kind}
use Rattle.records.specs.Causes.{Fits}
use Rattle.records.specs.Records.{State, Fitting, in_round, mark_of}
use Rattle.records.proofs.Fits.{mark_fits, round_fits, same_fits}
use Rattle.step.specs.Step.{Seen, Move, be_called, react}
use Rattle.step.proofs.Reacts.{called_cases, react_cases}

abbrev After : Move → Type 0
After m = Fitting m.state

move_fits : {m n : Move} → m ≡ n → After n → After m
move_fits e fit = rw e fit

module _ (o : Seen) (s : State) (fit : Fitting s) where
  called_fits : (by : Why) → Fits by → After (be_called o by s)
  called_fits by h = called_cases After o s by (λ d. (h, fit.1)) (λ d e. (h, fit.1)) (λ d e. (h, tt))

  react_fits : (from : ℕ) → from < places → (kind : Kind) → After (react o from s kind)
  react_fits from h = react_cases After o s from (λ c. fit) (λ c. called_fits (By (record { 0 = from })) h) (λ t. (fit.0, h)) (λ t. fit) fit

-- a round that is opened
pub open_fits : {m : Move} (o : Seen) (by : Why) (s : State) → m ≡ be_called o by s → by ≡ Itself → s.call ≡ Not → s.freed ≡ Not → After m
open_fits o by s e f g h = move_fits e (called_fits o s (rw g tt, rw h tt) by (rw f tt))

-- a message that is taken
pub take_fits : (o : Seen) (round from : ℕ) (kind : Kind) (r : State) {s t : State} {m : Move} → s ≡ in_round round r → t ≡ mark_of kind from s → m ≡ react o from t kind
    → Fitting r → from < places → After m
take_fits o round from kind r {s} {t} e f g fit h =
    move_fits g (react_fits o t (same_fits f (mark_fits kind from s (same_fits e (round_fits round r fit)))) from h kind)
