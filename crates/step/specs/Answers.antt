-- What a controller answers: the number by which each answer is known outside, and what an opening says at once. Assumes nothing.
use Rattle.std.specs.Prelude.{cond, ◌&&◌, ℕ, ◌+◌, eqb, Option, None, Some, Result, Ok, Err}
use Rattle.waits.specs.declared.refusals.Refusal.{Refusal}
use Rattle.waits.specs.Numbers.{reason_number}
use Rattle.step.specs.declared.answers.Verdict.{Verdict}
use Rattle.step.specs.declared.answers.Verdict.TheVariants.{Deadlocked, NotDeadlocked}
use Rattle.step.specs.declared.answers.Answer.{Answer}
use Rattle.step.specs.declared.answers.Answer.TheVariants.{Old, Stray, Repeat, Taken, Opened}
use Rattle.step.specs.Step.{Seen, active}

-- no verdict, deadlocked, not deadlocked
abbrev pub verdict_code : Option Verdict → ℕ
verdict_code None = 0
verdict_code (Some Deadlocked) = 1
verdict_code (Some NotDeadlocked) = 2

-- a refusal's own number is 1 to 99
abbrev pub code_of : Result Answer Refusal → ℕ
code_of (Err r) = reason_number r.reason
code_of (Ok Old) = 100
code_of (Ok Stray) = 101
code_of (Ok Repeat) = 102
code_of (Ok (Taken v)) = 110 + verdict_code v
code_of (Ok (Opened v)) = 120 + verdict_code v

-- nothing, but of an active node that nobody waits on: by what a node sees, and not by the graph
abbrev pub said_at_once : Seen → Option Verdict
said_at_once o = cond (active o && eqb o.ins 0) (Some NotDeadlocked) None
