-- The verdicts that a round gives, and which of them are right. Assumes nothing.
use Rattle.std.specs.Prelude.{List, [], ◌∷◌, ◌++◌, ℕ, Option, None, Some, Result, Ok, Err}
use Rattle.records.specs.Messages.{Letter}
use Rattle.waits.specs.declared.refusals.Refusal.{Refusal}
use Rattle.waits.specs.Waits.{Waits}
use Rattle.waits.specs.Deadlocked.{Deadlocked}
use Rattle.step.specs.declared.answers.Verdict.{Verdict}
use Rattle.step.specs.declared.answers.Verdict.TheVariants.{Deadlocked as Verdict-as-Deadlocked, NotDeadlocked}
use Rattle.step.specs.declared.answers.Answer.{Answer}
use Rattle.step.specs.declared.answers.Answer.TheVariants.{Old, Stray, Repeat, Taken, Opened}
use Rattle.step.specs.Step.{seen_in, open_round}
use Rattle.rounds.specs.Course.{after, reply}

abbrev pub given : Option Verdict → List Verdict
given None = []
given (Some v) = v ∷ []

-- the verdict of an answer, if it has one
abbrev pub verdict_in : Result Answer Refusal → List Verdict
verdict_in (Err r) = []
verdict_in (Ok Old) = []
verdict_in (Ok Stray) = []
verdict_in (Ok Repeat) = []
verdict_in (Ok (Taken v)) = given v
verdict_in (Ok (Opened v)) = given v

-- all verdicts given by the opening of a round and by a course of it, the newest first
unfoldable pub verdicts : Waits → ℕ → ℕ → List Letter → List Verdict
verdicts w s round [] = verdict_in (open_round (seen_in w s) round).answer
verdicts w s round (m ∷ l) = verdict_in (reply w (after w s round l) m).answer ++ verdicts w s round l

-- A verdict on a node is right: "deadlocked" exactly of a node that no reduction frees.
abbrev pub Right : Waits → ℕ → Verdict → Type 0
Right w s Verdict-as-Deadlocked = Deadlocked w s
Right w s NotDeadlocked = Deadlocked w s → ⊥
