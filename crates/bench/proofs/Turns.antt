-- A list of steps, turn by turn: what is left of the list gives what the whole gives. Assumes nothing.
use mathlib.Core.Path.{◌≡◌, refl, sym, ap, ap₂, ◌∙◌, subst}
use mathlib.Core.Bool.{true}
use mathlib.Core.List.{List, [], ◌∷◌}
use Prim.Native.Nat.{ℕ, suc, ◌+◌, ◌≤◌, ◌<◌}
use native.Mathlib.Numerals.{add-one}
use native.Mathlib.Omega.{arith}
use lib.ListN.{length, get_or, drop, set, length-set}
use lib.Seq.{sets, drop-cons}
use borrow.Author.Tests.{le-ltb}
use Rattle.lemmas.proofs.Cases.{at_true, at_false}
use Rattle.std.specs.Prelude.{Result, Ok}
use Rattle.waits.specs.declared.refusals.Refusal.{Refusal}
use Rattle.waits.specs.Rows.{waits_of}
use Rattle.step.specs.declared.answers.Answer.{Answer}
use Rattle.step.specs.Answers.{code_of}
use Rattle.lent.specs.declared.steps.Step.{Step}
use Rattle.lent.specs.Steps.{step_of, answer_number}
use Rattle.bench.specs.Bench.{Bench, After, after}
use Rattle.bench.specs.Strange.{strange_bench, Good}
use Rattle.bench.specs.Steps.{step_on, take_step}
use Rattle.bench.specs.Runs.{run, said, run_on, answers_on, refuse_all, run_of}
use Rattle.bench.proofs.Sound.{good_sound, few_sent}
use Rattle.bench.proofs.Keeping.{step_good, step_taken}
use Rattle.bench.proofs.Codes.{answer_few}
use Rattle.waits.specs.declared.refusals.Reason.TheVariants.{StrangeState, ShortRoom}

-- j steps are taken; b is the bench then, and answers are the lent answers; start and found are those at the beginning
pub record Turn (n : ℕ) (rows steps : List ℕ) (start : Bench) (found : List ℕ) (b : Bench) (answers : List ℕ) (j : ℕ) : Type 0 where
  pub good : Good n rows b
  pub below : j ≤ length steps
  pub long : length answers ≡ length found
  pub bench : run_on n rows b (drop j steps) ≡ run_on n rows start steps
  pub list : sets answers j (answers_on n rows b (drop j steps)) ≡ sets found 0 (answers_on n rows start steps)

module _ (n : ℕ) (rows steps : List ℕ) (start : Bench) (found : List ℕ) (b : Bench) (answers : List ℕ) (j : ℕ) (t : Turn n rows steps start found b answers j) where
  module _ {s : Step} {b' : Bench} {answer : Result Answer Refusal} (asked : s ≡ step_of (get_or steps j 0)) (took : after b' answer ≡ take_step (waits_of n rows) b s) where
    -- the step by itself
    alone : after b' answer ≡ step_on n rows b (step_of (get_or steps j 0))
    alone = took ∙ ap (take_step (waits_of n rows) b) asked ∙ step_taken n rows b t.good (step_of (get_or steps j 0))

    next_good : Good n rows b'
    next_good = subst (λ (x : After). Good n rows x.bench) (sym took) (step_good n rows b t.good s)

    -- what its number asks for
    pub turn_answer : (b'.sent ≤ 65536) × (code_of answer < 65536)
    turn_answer =
        let few : code_of answer ≤ 122 = subst (λ (x : After). code_of x.answer ≤ 122) (sym took) (answer_few (waits_of n rows) b s) in
        (omega (arith, few_sent n rows b' (good_sound n rows b' next_good)), omega arith)

    pub turn_next : {answers' : List ℕ} {x : ℕ} → j < length steps → x ≡ answer_number b'.sent answer → answers' ≡ set answers j x
        → Turn n rows steps start found b' answers' (j + 1)
    turn_next {answers'} {x} h e f =
        let cut = drop-cons steps j 0 h in
        let here : x ≡ said (step_on n rows b (step_of (get_or steps j 0))) = e ∙ ap said alone in
        let rest : drop (j + 1) steps ≡ drop (suc j) steps = ap (λ (k : ℕ). drop k steps) (add-one j) in
        record {
          good = next_good;
          below = omega arith;
          long = ap length f ∙ length-set answers j x ∙ t.long;
          bench = ap₂ (λ (a : After) (l : List ℕ). run_on n rows a.bench l) alone rest ∙ sym (ap (run_on n rows b) cut) ∙ t.bench;
          list =
              (λ i. sets ((f ∙ ap (set answers j) here) i) (add-one j i) (answers_on n rows (alone i).bench (rest i)))
              ∙ sym (ap (λ (l : List ℕ). sets answers j (answers_on n rows b l)) cut) ∙ t.list;
        }

-- ---- the whole list
module _ (n : ℕ) (rows : List ℕ) where
  -- Theorem: a list of steps keeps a good state good.
  pub run_good : (steps : List ℕ) (b : Bench) → Good n rows b → Good n rows (run_on n rows b steps)
  run_good [] b good = good
  run_good (x ∷ xs) b good =
      run_good xs (step_on n rows b (step_of x)).bench
      (subst (λ (a : After). Good n rows a.bench) (step_taken n rows b good (step_of x)) (step_good n rows b good (step_of x)))

  pub answers_length : (steps : List ℕ) (b : Bench) → length (answers_on n rows b steps) ≡ length steps
  answers_length [] b = refl
  answers_length (x ∷ xs) b = ap suc (answers_length xs (step_on n rows b (step_of x)).bench)

-- ---- a list that is refused as a whole, and one that isn't
module _ (n : ℕ) (rows : List ℕ) (b : Bench) (steps answers : List ℕ) where
  pub run_refused : strange_bench n rows b ≡ true → run_of n rows b steps answers ≡ refuse_all StrangeState b answers
  unfolding run_of
  run_refused e = sym (at_true _ e refl)

  pub run_taken : Good n rows b → length steps ≤ length answers → run_of n rows b steps answers ≡ run (run_on n rows b steps) (sets answers 0 (answers_on n rows b steps)) (Ok tt)
  unfolding run_of
  run_taken e h = sym (at_false (refuse_all StrangeState b answers) e (at_false (refuse_all ShortRoom b answers) (le-ltb (length answers) (length steps) h) refl))
