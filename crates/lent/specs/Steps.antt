-- Steps and answers in lent lists: one number each. Assumes nothing.
use Rattle.std.specs.Prelude.{ℕ, ◌+◌, ◌*◌, ◌/◌, ◌%◌, ◌^◌, Result}
use Rattle.waits.specs.declared.refusals.Refusal.{Refusal}
use Rattle.step.specs.declared.answers.Answer.{Answer}
use Rattle.step.specs.Answers.{code_of}
use Rattle.lent.specs.declared.steps.Step.{Step}

-- the number of a step, where a and b are below 2^24
unfoldable pub step_number : (kind a b : ℕ) → ℕ
step_number kind a b = kind * 2 ^ 48 + a * 2 ^ 24 + b

-- and back: every number is some step
unfoldable pub step_of : ℕ → Step
step_of x = record { kind = x / 2 ^ 48; a = x / 2 ^ 24 % 2 ^ 24; b = x % 2 ^ 24 }

-- the number of an answer; sent is how many messages are sent by then
unfoldable pub answer_number : ℕ → Result Answer Refusal → ℕ
answer_number sent answer = sent * 2 ^ 16 + code_of answer
