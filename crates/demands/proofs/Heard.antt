-- All steps from a fresh start: the bench stands for what was heard, and no message sent is ever overwritten. Assumes nothing.
use mathlib.Core.Path.{◌≡◌, refl, sym, ap, ◌∙◌, subst}
use mathlib.Core.Bool.{Bool, true, false, cond}
use mathlib.Core.List.Memᴰ
use mathlib.Core.List.{List, [], ◌∷◌, Memᴰ}
use mathlib.Core.List.Memᴰ.{head as here}
use mathlib.Core.List.Memᴰ.{tail as there}
use Prim.Native.Nat.{ℕ, ◌≤◌, ◌<◌}
use native.Mathlib.Omega.{arith}
use lib.ListN.{get_or}
use Rattle.std.specs.Prelude.{Ok}
use Rattle.waits.specs.Waits.{Waits}
use Rattle.waits.specs.Numbers.{check_of}
use Rattle.step.specs.Step.{seen_in}
use Rattle.lent.specs.declared.steps.Step.{Step}
use Rattle.bench.specs.Bench.{Bench, After, fresh}
use Rattle.bench.specs.Steps.{step_on}
use Rattle.waits.specs.Rows.{waits_of}
use Rattle.rounds.specs.Course.{Stage}
use Rattle.rounds.specs.History.{since, Event, outcome}
use Rattle.demands.specs.Turns.{Turn, turns, after_steps, accepted, event_of, heard}
use Rattle.demands.proofs.Said.{open_accepted, receive_accepted}
use Rattle.demands.proofs.Stands.{Stands, fresh_stands}
use Rattle.demands.proofs.Onward.{Onward, step_onward}
use Rattle.demands.proofs.Onward.Onward.{refused, full, taken}

pub outcome_accepted : (w : Waits) (c : Stage) (e : Event) → accepted (outcome w c e).answer ≡ true
outcome_accepted w c (Event.opens i round) = open_accepted (seen_in w i) round
outcome_accepted w c (Event.arrives m) = receive_accepted (seen_in w m.to) (c.records m.to) m

-- the messages of one bench are there on another, which may have more
pub record Kept (b next : Bench) : Type 0 where
  pub more : b.sent ≤ next.sent
  pub same : (k : ℕ) → k < b.sent → get_or next.messages k 0 ≡ get_or b.messages k 0

all_kept : (b : Bench) → Kept b b
all_kept b = record { more = omega arith; same = λ k h. refl }

kept_on : {b c d : Bench} → Kept b c → Kept c d → Kept b d
kept_on p q = record {
  more = omega (arith, p.more, q.more);
  same = λ k h. q.same k (omega (arith, p.more)) ∙ p.same k h;
}

module _ {n : ℕ} {rows : List ℕ} {b : Bench} {l : List Event} {e : Event} where
  next_stands : {a : After} → Onward n rows b l e a → Stands n rows b l → Stands n rows a.bench (cond (accepted a.answer) (e ∷ l) l)
  next_stands (refused number h) st = st
  next_stands (full h r) st = st
  next_stands (taken next s more same) st = subst (λ (t : Bool). Stands n rows next (cond t (e ∷ l) l)) (sym (outcome_accepted _ (since (waits_of n rows) l) e)) s

  next_kept : {a : After} → Onward n rows b l e a → Kept b a.bench
  next_kept (refused number h) = all_kept b
  next_kept (full h r) = all_kept b
  next_kept (taken next s more same) = record { more = more; same = same }

module _ (n : ℕ) (rows messages : List ℕ) (ok : check_of n rows ≡ Ok tt) where
  abbrev now : List Step → Bench
  now = after_steps n rows (fresh n messages)

  abbrev past : List Step → List Turn
  past = turns n rows (fresh n messages)

  -- Theorem: after any steps the bench stands for what was heard.
  pub all_stand : (steps : List Step) → Stands n rows (now steps) (heard (past steps))
  all_stand [] = fresh_stands n rows messages ok
  all_stand (x ∷ steps) = let st = all_stand steps in next_stands (step_onward st x) st

  pub step_kept : (steps : List Step) (x : Step) → Kept (now steps) (now (x ∷ steps))
  step_kept steps x = next_kept (step_onward (all_stand steps) x)

  -- Theorem: what a turn found sent is there for ever.
  pub turn_kept : (steps : List Step) (t : Turn) → Memᴰ t (past steps) → Kept t.on (now steps)
  turn_kept (x ∷ steps) t (here e) = subst (λ (y : Turn). Kept y.on (now (x ∷ steps))) (sym e) (step_kept steps x)
  turn_kept (x ∷ steps) t (there i) = kept_on (turn_kept steps t i) (step_kept steps x)
  turn_kept [] t x' = elim x' [ ]

-- a turn gave what its step on its bench gives
pub turn_gave : (n : ℕ) (rows : List ℕ) (b : Bench) (steps : List Step) (t : Turn) → Memᴰ t (turns n rows b steps) → t.gave ≡ step_on n rows t.on t.step
turn_gave n rows b (x ∷ steps) t (here e) = subst (λ (y : Turn). y.gave ≡ step_on n rows y.on y.step) (sym e) refl
turn_gave n rows b (x ∷ steps) t (there i) = turn_gave n rows b steps t i
turn_gave n rows b [] t x' = elim x' [ ]

-- ---- what was heard is the events of the turns that weren't refused
heard_cons : (t : Turn) (l : List Turn) (e : Event) → Memᴰ e (heard l) → Memᴰ e (heard (t ∷ l))
heard_cons t l e i = go (accepted t.gave.answer)
  where
    go : (b : Bool) → Memᴰ e (cond b (event_of t ∷ heard l) (heard l))
    go true = there i
    go false = i

pub turn_heard : (l : List Turn) (t : Turn) → Memᴰ t l → accepted t.gave.answer ≡ true → Memᴰ (event_of t) (heard l)
turn_heard (a ∷ l) t (here e) f =
    let g : accepted a.gave.answer ≡ true = ap (λ (x : Turn). accepted x.gave.answer) (sym e) ∙ f in
    Memᴰ.cast (ap event_of e) (subst (λ (b : Bool). Memᴰ (event_of a) (cond b (event_of a ∷ heard l) (heard l))) (sym g) (here refl))
turn_heard (a ∷ l) t (there i) f = heard_cons a l (event_of t) (turn_heard l t i f)
turn_heard [] t x'' f = elim x'' [ ]

-- the event of some turn
abbrev From : List Turn → Event → Type 0
From l e = (t : Turn) × Memᴰ t l × (accepted t.gave.answer ≡ true) × (event_of t ≡ e)

from_later : (a : Turn) (l : List Turn) (e : Event) → From l e → From (a ∷ l) e
from_later a l e r = (r.0, there r.1, r.2, r.3)

pub heard_turn : (l : List Turn) (e : Event) → Memᴰ e (heard l) → From l e
heard_turn [] e i = absurd (elim i [ ])
heard_turn (a ∷ l) e i = go (accepted a.gave.answer) refl (heard_turn l e) i
  where
    first : accepted a.gave.answer ≡ true → (Memᴰ e (heard l) → From l e) → Memᴰ e (event_of a ∷ heard l) → From (a ∷ l) e
    first f ih (here q) = (a, here refl, f, sym q)
    first f ih (there j) = from_later a l e (ih j)

    go : (b : Bool) → accepted a.gave.answer ≡ b → (Memᴰ e (heard l) → From l e) → Memᴰ e (cond b (event_of a ∷ heard l) (heard l)) → From (a ∷ l) e
    go true f ih j = first f ih j
    go false f ih j = from_later a l e (ih j)
