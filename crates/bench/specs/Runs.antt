-- A list of steps: its steps taken singly, one after the other. Assumes nothing.
use Rattle.std.specs.Prelude.{cond, List, [], ◌∷◌, ℕ, ltb, length, Result, Ok, Err}
use Rattle.std.proofs.lemmas.List.Edits.{sets}
use Rattle.waits.specs.declared.refusals.Reason.{Reason}
use Rattle.waits.specs.declared.refusals.Reason.TheVariants.{StrangeState, ShortRoom}
use Rattle.waits.specs.declared.refusals.Refusal.{Refusal}
use Rattle.lent.specs.Steps.{step_of, answer_number}
use Rattle.bench.specs.Bench.{Bench, After, refusal}
use Rattle.bench.specs.Strange.{strange_bench}
use Rattle.bench.specs.Steps.{step_on}

-- the bench after the steps of a list
abbrev pub run_on : ℕ → List ℕ → Bench → List ℕ → Bench
run_on n rows b [] = b
run_on n rows b (x ∷ xs) = run_on n rows (step_on n rows b (step_of x)).bench xs

-- the answer to each, with the messages sent so far
abbrev pub said : After → ℕ
said s = answer_number s.bench.sent s.answer

abbrev pub answers_on : ℕ → List ℕ → Bench → List ℕ → List ℕ
answers_on n rows b [] = []
answers_on n rows b (x ∷ xs) = said (step_on n rows b (step_of x)) ∷ answers_on n rows (step_on n rows b (step_of x)).bench xs

-- What a call with a list of steps leaves: the bench, the lent answers, and whether the list was refused as a whole.
pub record Run : Type 0 where
  pub bench : Bench
  pub answers : List ℕ
  pub checked : Result Unit Refusal

abbrev pub run : Bench → List ℕ → Result Unit Refusal → Run
run b answers checked = record { bench = b; answers = answers; checked = checked }

-- a list that is refused as a whole touches nothing
abbrev pub refuse_all : Reason → Bench → List ℕ → Run
refuse_all reason b answers = run b answers (Err (refusal reason))

-- 13, then 15 if there are fewer answer places than steps; then an answer to each step, the places after them as found
unfoldable pub run_of : ℕ → List ℕ → Bench → List ℕ → List ℕ → Run
run_of n rows b steps answers =
    cond (strange_bench n rows b) (refuse_all StrangeState b answers)
    (cond (ltb (length answers) (length steps)) (refuse_all ShortRoom b answers)
    (run (run_on n rows b steps) (sets answers 0 (answers_on n rows b steps)) (Ok tt)))
