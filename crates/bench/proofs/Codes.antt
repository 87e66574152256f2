-- What a bench answers: what is so of each answer that a step can have is so of every step's; so it is a small number, which fits beside
-- the sent count. Assumes nothing.
use mathlib.Core.Bool.{Bool, true, false, cond}
use Prim.Native.Nat.{ℕ, ◌+◌, ◌≤◌}
use native.Mathlib.Omega.{arith}
use lib.Dec.{ltb}
use lib.ListN.{length}
use Rattle.std.specs.Prelude.{Result, Err}
use Rattle.waits.specs.declared.refusals.Refusal.{Refusal}
use Rattle.waits.specs.Waits.{Waits}
use Rattle.step.specs.declared.answers.Answer.{Answer}
use Rattle.step.specs.Answers.{code_of}
use Rattle.step.specs.Step.{Outcome, seen_in, open_round}
use Rattle.step.specs.Letters.{letters_of}
use Rattle.step.proofs.Said.{verdict_code_le}
use Rattle.step.proofs.Answered.{Plain, open_answer, receive_answer}
use Rattle.lent.specs.declared.steps.Step.{Step}
use Rattle.bench.specs.Bench.{Bench, After, after, room, refusal}
use Rattle.bench.specs.Steps.{refuse, join, arrive_at, take_step}
use Rattle.bench.proofs.Ways.{Way, step_way}
use Rattle.bench.proofs.Ways.Way.{refused, opened, arrived}
use Rattle.waits.specs.declared.refusals.Reason.{Reason}
use Rattle.waits.specs.Numbers.{reason_number}
use Rattle.waits.specs.declared.refusals.Reason.TheVariants.{FullRoom}

module _ (P : Result Answer Refusal → Type 0) (p : Plain P) (no : (why : Reason) → 9 ≤ reason_number why → reason_number why ≤ 12 → P (Err (refusal why))) (w : Waits) (b : Bench) where
  join_answer : (highest i : ℕ) (out : Outcome) → P out.answer → P (join b highest i out).answer
  unfolding join
  join_answer highest i out h = go (ltb (room b) (b.sent + length (letters_of i out.state.round out.sends))) _
    where
      go : (t : Bool) (next : Bench) → P (cond t (refuse FullRoom b) (after next out.answer)).answer
      go true next = no FullRoom (omega arith) (omega arith)
      go false next = h

  way_answer : {a : After} → Way w b a → P a.answer
  unfolding arrive_at
  way_answer (refused why h) = no why h.0 (omega (arith, h.1))
  way_answer (opened i round h e) = join_answer round i (open_round (seen_in w i) round) (open_answer P p (seen_in w i) round)
  way_answer (arrived k h) = join_answer b.highest _ _ (receive_answer P p _ _ _)

  pub step_answer : (s : Step) → P (take_step w b s).answer
  step_answer s = way_answer (step_way w b s)

abbrev Few : Result Answer Refusal → Type 0
Few a = code_of a ≤ 122

few : Plain Few
few = record {
  old = omega arith;
  stray = omega arith;
  repeat = omega arith;
  taken = λ v. omega (arith, verdict_code_le v);
  opened = λ v. omega (arith, verdict_code_le v);
}

pub answer_few : (w : Waits) (b : Bench) (s : Step) → code_of (take_step w b s).answer ≤ 122
answer_few = step_answer Few few (λ why _ h. omega (arith, h))
