-- What an opening says at once, by its own row and IN alone: nothing, but at an active node that nobody waits on. Assumes nothing.
use mathlib.Core.Path.{◌≡◌, refl, sym, ap, ap₂, ◌∙◌}
use mathlib.Core.Bool.{Bool, true, false, cond, not, ◌&&◌, ◌||◌, false≢true}
use Prim.Native.Nat.{ℕ}
use lib.Dec.{eqb}
use borrow.Author.Tests.{eq-eqb, ne_eqb}
use Rattle.nodes.specs.Sets.{inside}
use Rattle.nodes.proofs.Inside.{inside_none}
use Rattle.records.specs.declared.causes.Why.TheVariants.{Itself}
use Rattle.records.specs.Records.{blank_of}
use Rattle.std.specs.Prelude.{Option, None, Some, Result, Ok}
use Rattle.waits.specs.declared.refusals.Refusal.{Refusal}
use Rattle.step.specs.declared.answers.Verdict.{Verdict}
use Rattle.step.specs.declared.answers.Verdict.TheVariants.{NotDeadlocked, Deadlocked}
use Rattle.step.specs.declared.answers.Answer.{Answer}
use Rattle.step.specs.declared.answers.Answer.TheVariants.{Opened}
use Rattle.step.specs.Step.{Seen, Move, active, complete, be_called, verdict_of, settle, open_round}
use Rattle.step.specs.Answers.{said_at_once}
use Rattle.step.proofs.Reacts.{called_cases}
use Rattle.step.proofs.Taken.{open_says}

module _ (o : Seen) (idle : active o ≡ true → o.out ≡ 0) (waits : active o ≡ false → o.out ≡ 0 → ⊥) where
  abbrev Says : Move → Type 0
  Says m = verdict_of (complete o m.state) m.state ≡ said_at_once o

  both : (z : Bool) → cond (z && true) (Some NotDeadlocked) None ≡ cond z (Some NotDeadlocked) None
  both true = refl
  both false = refl

  called_says : (round : ℕ) → Says (be_called o Itself (blank_of round))
  unfolding verdict_of complete
  called_says round = called_cases Says o (blank_of round) Itself
      (λ d.
      ap (λ (x : Bool). cond ((x && (not (active o) || inside o.ins 0)) && true) (Some Deadlocked) None) (inside_none o.out ∙ ne_eqb o.out 0 (waits d))
      ∙ ap (λ (a : Bool). cond (a && eqb o.ins 0) (Some NotDeadlocked) None) (sym d))
      (λ d e. absurd (false≢true e))
      (λ d e.
      ap₂ (λ (x a : Bool). cond ((x && (not a || inside o.ins 0)) && true) (Some NotDeadlocked) None) (inside_none o.out ∙ eq-eqb o.out 0 (idle d)) d
      ∙ ap (λ (x : Bool). cond (x && true) (Some NotDeadlocked) None) (inside_none o.ins) ∙ both (eqb o.ins 0)
      ∙ ap (λ (a : Bool). cond (a && eqb o.ins 0) (Some NotDeadlocked) None) (sym d))

  -- Theorem: an opening says that.
  pub opens_saying : (round : ℕ) → (open_round o round).answer ≡ Ok (Opened (said_at_once o))
  unfolding open_round settle
  opens_saying round = open_says o round ∙ ap (λ (v : Option Verdict). Ok (Opened v)) (called_says round)

-- an opening says one thing
pub one_said : {v u : Option Verdict} {a : Result Answer Refusal} → a ≡ Ok (Opened u) → a ≡ Ok (Opened v) → v ≡ u
one_said {v} {u} e f = let q : ◌≡◌ {A = Result Answer Refusal} (Ok (Opened v)) (Ok (Opened u)) = sym f ∙ e in cc q
