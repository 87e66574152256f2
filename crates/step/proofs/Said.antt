-- A step made of what its callees said, over plain variables. Assumes nothing.
use mathlib.Core.Path.{◌≡◌, ap, ap₂, ◌∙◌}
use Prim.Native.Nat.{ℕ, ◌≤◌}
use native.Mathlib.Omega.{arith}
use Rattle.std.specs.Prelude.{Option, None, Some}
use Rattle.records.specs.Messages.{Letter}
use Rattle.records.specs.Records.{State}
use Rattle.waits.specs.declared.rows.Row.{Row}
use Rattle.step.specs.declared.answers.Verdict.{Verdict}
use Rattle.step.specs.declared.answers.Verdict.TheVariants.{Deadlocked, NotDeadlocked}
use Rattle.step.specs.Answers.{verdict_code}
use Rattle.step.specs.Step.{Seen, Outcome, open_round, receive}
use Rattle.step.specs.Views.{seen_by}

pub verdict_code_le : (v : Option Verdict) → verdict_code v ≤ 2
verdict_code_le None = omega arith
verdict_code_le (Some Deadlocked) = omega arith
verdict_code_le (Some NotDeadlocked) = omega arith

-- ---- what a node sees, and what it does with that
pub seen_as : (me : ℕ) {r row : Row} {x ins : ℕ} → r ≡ row → x ≡ ins → seen_by me r x ≡ seen_by me row ins
seen_as me e f = ap₂ (seen_by me) e f

pub opened_as : (round : ℕ) {o p : Seen} {x : Outcome} → x ≡ open_round o round → o ≡ p → x ≡ open_round p round
opened_as round e f = e ∙ ap (λ (y : Seen). open_round y round) f

pub received_as : {m n : Letter} {o p : Seen} {s t : State} {x : Outcome} → x ≡ receive o s m → o ≡ p → s ≡ t → m ≡ n → x ≡ receive p t n
received_as e f g h = e ∙ (λ i. receive (f i) (g i) (h i))
