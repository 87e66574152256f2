-- A list of steps answers as its steps taken singly do. Assumes nothing.
use mathlib.Core.Path.{◌≡◌, refl, sym, ap, ap₂, ◌∙◌}
use mathlib.Core.List.{List, [], ◌∷◌, ◌++◌, map, reverse, map-append, reverse-cons, reverse-append}
use Prim.Native.Nat.{ℕ, ◌≤◌}
use lib.ListN.{length}
use lib.Seq.{sets}
use Rattle.std.specs.Prelude.{Ok}
use Rattle.lent.specs.declared.steps.Step.{Step}
use Rattle.lent.specs.Steps.{step_of}
use Rattle.bench.specs.Bench.{Bench}
use Rattle.bench.specs.Strange.{Good}
use Rattle.bench.specs.Steps.{step_on}
use Rattle.bench.specs.Runs.{said, run, run_on, answers_on, run_of}
use Rattle.bench.proofs.Turns.{run_taken}
use Rattle.demands.specs.Turns.{Turn, turn, turns, after_steps, singly, taken_singly}

module _ (n : ℕ) (rows : List ℕ) where
  -- ---- one step before all others
  after_first : (l : List Step) (b : Bench) (x : Step) → after_steps n rows b (l ++ x ∷ []) ≡ after_steps n rows (step_on n rows b x).bench l
  after_first [] b x = refl
  after_first (y ∷ l) b x = ap (λ (c : Bench). (step_on n rows c y).bench) (after_first l b x)

  turns_first : (l : List Step) (b : Bench) (x : Step) → turns n rows b (l ++ x ∷ []) ≡ turns n rows (step_on n rows b x).bench l ++ turn n rows b x ∷ []
  turns_first [] b x = refl
  turns_first (y ∷ l) b x = λ i. turn n rows (after_first l b x i) y ∷ turns_first l b x i

  -- the answer to a turn's step, with the messages sent so far
  abbrev told : Turn → ℕ
  told t = said t.gave

  last_told : (l : List Turn) (t : Turn) → reverse (map told (l ++ t ∷ [])) ≡ told t ∷ reverse (map told l)
  last_told l t = ap reverse (map-append told l (t ∷ [])) ∙ reverse-append (map told l) (told t ∷ [])

  -- ---- the bench after a list, and its answers
  run_singly : (l : List ℕ) (b : Bench) → run_on n rows b l ≡ after_steps n rows b (singly l)
  run_singly [] b = refl
  run_singly (x ∷ l) b =
      run_singly l (step_on n rows b (step_of x)).bench
      ∙ sym (after_first (reverse (map step_of l)) b (step_of x))
      ∙ ap (after_steps n rows b) (sym (reverse-cons (step_of x) (map step_of l)))

  answers_singly : (l : List ℕ) (b : Bench) → answers_on n rows b l ≡ reverse (map told (turns n rows b (singly l)))
  answers_singly [] b = refl
  answers_singly (x ∷ l) b =
      let first = turn n rows b (step_of x) in
      let others = turns n rows (step_on n rows b (step_of x)).bench (reverse (map step_of l)) in
      ap (λ (r : List ℕ). told first ∷ r) (answers_singly l (step_on n rows b (step_of x)).bench)
      ∙ sym (last_told others first)
      ∙ ap (λ (ts : List Turn). reverse (map told ts)) (sym (turns_first (reverse (map step_of l)) b (step_of x)))
      ∙ ap (λ (s : List Step). reverse (map told (turns n rows b s))) (sym (reverse-cons (step_of x) (map step_of l)))

  -- Theorem: a list that isn't refused as a whole comes to what its steps come to, taken singly.
  pub as_a_list : (b : Bench) → Good n rows b → (l answers : List ℕ) → length l ≤ length answers → run_of n rows b l answers ≡ taken_singly n rows b l answers
  unfolding taken_singly
  as_a_list b good l answers h =
      run_taken n rows b l answers good h
      ∙ ap₂ (λ (x : Bench) (y : List ℕ). run x (sets answers 0 y) (Ok tt)) (run_singly l b) (answers_singly l b)
