-- The answers that the steps of a bench gave, and the verdicts among them, are those of the rules' history. Assumes nothing.
use mathlib.Core.Path.{◌≡◌, refl, sym, ap, ◌∙◌, subst}
use mathlib.Core.Bool.{Bool, true, false, cond, true≢false}
use mathlib.Core.List.{List, [], ◌∷◌, ◌++◌, Memᴰ}
use mathlib.Core.List.Memᴰ.{head as here}
use mathlib.Core.List.Memᴰ.{tail as there}
use Prim.Native.Nat.{ℕ}
use lib.Dec.{eqb}
use Rattle.std.specs.Prelude.{Result, Ok, Err}
use Rattle.waits.specs.declared.refusals.Refusal.{Refusal}
use Rattle.waits.specs.Waits.{Waits}
use Rattle.waits.specs.Rows.{waits_of}
use Rattle.waits.specs.Numbers.{check_of}
use Rattle.step.specs.declared.answers.Verdict.{Verdict}
use Rattle.step.specs.declared.answers.Answer.{Answer}
use Rattle.step.specs.declared.answers.Answer.TheVariants.{Old, Stray, Repeat, Taken, Opened}
use Rattle.lent.specs.declared.steps.Step.{Step}
use Rattle.bench.specs.Bench.{Bench, After, fresh}
use Rattle.rounds.specs.Verdicts.{verdict_in}
use Rattle.rounds.specs.History.{Event, round_of, outcome, since, answers_of, verdicts_of}
use Rattle.demands.specs.Turns.{Turn, turn, turns, after_steps, accepted, event_of, heard, verdicts_given}
use Rattle.demands.proofs.Onward.{Onward, step_onward}
use Rattle.demands.proofs.Onward.Onward.{refused, full, taken}
use Rattle.demands.proofs.Heard.{outcome_accepted, all_stand}

-- ---- one step more: a refusal has no verdict, and any other answer is the rules' own
module _ (n : ℕ) (rows : List ℕ) (l : List Event) (e : Event) (round : ℕ) where
  abbrev w : Waits
  w = waits_of n rows

  abbrev Next : After → List Verdict → Type 0
  Next a before = cond (eqb (round_of e) round) (verdict_in a.answer) [] ++ before ≡ verdicts_of w round (cond (accepted a.answer) (e ∷ l) l)

  nothing : (t : Bool) (before : List Verdict) → cond t [] [] ++ before ≡ before
  nothing true before = refl
  nothing false before = refl

  next_given : {b : Bench} {a : After} → Onward n rows b l e a → (before : List Verdict) → before ≡ verdicts_of w round l → Next a before
  unfolding verdicts_of
  next_given (refused number h) before q = nothing (eqb (round_of e) round) before ∙ q
  next_given (full h r) before q = nothing (eqb (round_of e) round) before ∙ q
  next_given (taken next s more same) before q =
      ap (λ (x : List Verdict). cond (eqb (round_of e) round) (verdict_in (outcome w (since w l) e).answer) [] ++ x) q
      ∙ ap (λ (t : Bool). verdicts_of w round (cond t (e ∷ l) l)) (sym (outcome_accepted w (since w l) e))

-- a refusal gives no verdict
pub verdict_accepted : (a : Result Answer Refusal) (v : Verdict) → Memᴰ v (verdict_in a) → accepted a ≡ true
verdict_accepted (Err r) v i = absurd (elim i [ ])
verdict_accepted (Ok Old) v i = refl
verdict_accepted (Ok Stray) v i = refl
verdict_accepted (Ok Repeat) v i = refl
verdict_accepted (Ok (Taken u)) v i = refl
verdict_accepted (Ok (Opened u)) v i = refl

-- ---- what a turn answered, if it wasn't refused, is what the rules' node answered
taken_answer : {n : ℕ} {rows : List ℕ} {b : Bench} {l : List Event} {e : Event} {a : After} → Onward n rows b l e a → accepted a.answer ≡ true
    → a.answer ≡ (outcome (waits_of n rows) (since (waits_of n rows) l) e).answer
taken_answer (refused number h) f = absurd (true≢false (sym f))
taken_answer (full h r) f = absurd (true≢false (sym f))
taken_answer (taken next s more same) f = refl

module _ (n : ℕ) (rows messages : List ℕ) (ok : check_of n rows ≡ Ok tt) where
  abbrev answers : List Step → List (Event × Result Answer Refusal)
  answers steps = answers_of (waits_of n rows) (heard (turns n rows (fresh n messages) steps))

  abbrev Answered : List Step → Turn → Type 0
  Answered steps t = accepted t.gave.answer ≡ true → Memᴰ (event_of t, t.gave.answer) (answers steps)

  newest_answer : (steps : List Step) (x : Step) → Answered (x ∷ steps) (turn n rows (after_steps n rows (fresh n messages) steps) x)
  newest_answer steps x f =
      let t = turn n rows (after_steps n rows (fresh n messages) steps) x in
      let l = heard (turns n rows (fresh n messages) steps) in
      subst (λ (b : Bool). Memᴰ (event_of t, t.gave.answer) (answers_of (waits_of n rows) (cond b (event_of t ∷ l) l))) (sym f)
      (here (λ j. (event_of t, taken_answer (step_onward (all_stand n rows messages ok steps) x) f j)))

  older_answer : (steps : List Step) (x : Step) (y : Event × Result Answer Refusal) → Memᴰ y (answers steps) → Memᴰ y (answers (x ∷ steps))
  older_answer steps x y i = go (accepted (turn n rows (after_steps n rows (fresh n messages) steps) x).gave.answer)
    where
      go : (b : Bool) → Memᴰ y (answers_of (waits_of n rows)
          (cond b (event_of (turn n rows (after_steps n rows (fresh n messages) steps) x) ∷ heard (turns n rows (fresh n messages) steps)) (heard (turns n rows (fresh n messages) steps))))
      go true = there i
      go false = i

  pub turn_answer : (steps : List Step) (t : Turn) → Memᴰ t (turns n rows (fresh n messages) steps) → Answered steps t
  turn_answer (x ∷ steps) t (here q) = subst (Answered (x ∷ steps)) (sym q) (newest_answer steps x)
  turn_answer (x ∷ steps) t (there i) = λ f. older_answer steps x _ (turn_answer steps t i f)
  turn_answer [] t x' = elim x' [ ]

-- ---- all verdicts from a fresh start
module _ (n : ℕ) (rows messages : List ℕ) (ok : check_of n rows ≡ Ok tt) (round : ℕ) where
  abbrev past : List Step → List Turn
  past = turns n rows (fresh n messages)

  -- Theorem: what was given is what the rules say.
  pub given_said : (steps : List Step) → verdicts_given round (past steps) ≡ verdicts_of (waits_of n rows) round (heard (past steps))
  unfolding verdicts_given verdicts_of
  given_said [] = refl
  given_said (x ∷ steps) =
      next_given n rows (heard (past steps)) (event_of (turn n rows (after_steps n rows (fresh n messages) steps) x)) round
      (step_onward (all_stand n rows messages ok steps) x) (verdicts_given round (past steps)) (given_said steps)
