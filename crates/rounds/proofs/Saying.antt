-- What is said in a round, event by event. Assumes nothing.
use mathlib.Core.Path.{◌≡◌, refl, ap, ◌∙◌, subst}
use mathlib.Core.Bool.{Bool, cond}
use mathlib.Core.Logic.{◌⊎◌, inl, inr}
use mathlib.Core.List.Memᴰ
use mathlib.Core.List.{List, [], ◌∷◌, ◌++◌, Memᴰ}
use mathlib.Core.List.Memᴰ.{head as here}
use mathlib.Core.List.Memᴰ.{tail as there}
use Prim.Native.Nat.{ℕ}
use native.Mathlib.Decide.{ℕ_discrete}
use borrow.Author.Tests.{eq-eqb, ne_eqb}
use Rattle.waits.specs.Waits.{Waits}
use Rattle.std.specs.Prelude.{Result}
use Rattle.waits.specs.declared.refusals.Refusal.{Refusal}
use Rattle.step.specs.declared.answers.Verdict.{Verdict}
use Rattle.step.specs.declared.answers.Answer.{Answer}
use Rattle.rounds.specs.Verdicts.{verdict_in}
use Rattle.rounds.specs.History.{Event, round_of, outcome, since, answers_of, verdicts_of}

module _ (w : Waits) (round : ℕ) (e : Event) (l : List Event) where
  -- what the event says
  abbrev saying : List Verdict
  saying = verdict_in (outcome w (since w l) e).answer

  -- an event of the round, and one of another
  pub said_own : round_of e ≡ round → verdicts_of w round (e ∷ l) ≡ saying ++ verdicts_of w round l
  unfolding verdicts_of
  said_own q = ap (λ (b : Bool). cond b saying [] ++ verdicts_of w round l) (eq-eqb (round_of e) round q)

  pub said_else : (round_of e ≡ round → ⊥) → verdicts_of w round (e ∷ l) ≡ verdicts_of w round l
  unfolding verdicts_of
  said_else d = ap (λ (b : Bool). cond b saying [] ++ verdicts_of w round l) (ne_eqb (round_of e) round d)

  -- a verdict is given by the event, if it is of the round, or was given before
  said_when : (v : Verdict) → Memᴰ v (verdicts_of w round (e ∷ l)) → ((round_of e ≡ round) × Memᴰ v saying) ⊎ Memᴰ v (verdicts_of w round l)
  said_when v i = elim (ℕ_discrete (round_of e) round) [
    | yes q ↦ elim (Memᴰ.append_cases saying (subst (λ (x : List Verdict). Memᴰ v x) (said_own q) i)) [
      | inl j ↦ inl (q, j)
      | inr j ↦ inr j
    ]
    | no d ↦ inr (subst (λ (x : List Verdict). Memᴰ v x) (said_else d) i)
  ]

-- a round of which there is no event
pub said_nothing : (w : Waits) (round : ℕ) (l : List Event) → ((e : Event) → Memᴰ e l → round_of e ≡ round → ⊥) → verdicts_of w round l ≡ []
unfolding verdicts_of
said_nothing w round [] h = refl
said_nothing w round (e ∷ l) h = said_else w round e l (h e (here refl)) ∙ said_nothing w round l (λ x m. h x (there m))

-- what is said in a round is the answer to an event of it
pub said_by_lem : (w : Waits) (round : ℕ) (l : List Event) (v : Verdict) → Memᴰ v (verdicts_of w round l)
    → (x : Event × Result Answer Refusal) × Memᴰ x (answers_of w l) × (round_of x.0 ≡ round) × Memᴰ v (verdict_in x.1)
unfolding verdicts_of
said_by_lem w round [] v m = absurd (elim m [ ])
said_by_lem w round (e ∷ l) v m =
    let ih = said_by_lem w round l v in
    elim (said_when w round e l v m) [
      | inl p ↦ ((e, (outcome w (since w l) e).answer), here refl, p.0, p.1)
      | inr j ↦ let r = ih j in (r.0, there r.1, r.2, r.3)
    ]
