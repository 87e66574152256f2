-- What the calls leave: their results and the lent memory. Assumes nothing.
use Rattle.std.specs.Prelude.{◌≡◌, Bool, true, false, cond, List, [], ◌∷◌, ℕ, Result, Ok, Err}
use Rattle.std.proofs.lemmas.List.Edits.{sets}
use Rattle.nodes.specs.declared.Set.{Set}
use Rattle.nodes.specs.Words.{num}
use Rattle.records.specs.declared.messages.Message.{Message}
use Rattle.waits.specs.declared.refusals.Refusal.{Refusal}
use Rattle.step.specs.declared.answers.Answer.{Answer}
use Rattle.step.specs.declared.answers.Answer.TheVariants.{Old, Stray, Repeat, Taken, Opened}
use Rattle.step.specs.Step.{Receivers, Outcome}
use Rattle.lent.specs.Kept.{put_state}
use Rattle.bench.specs.Bench.{Bench, After}
use Rattle.bench.specs.Runs.{Run}
use Rattle.coldroom.specs.Results.{answer, ran}

-- The result is the number of an answer that a promise allows.
abbrev pub Says : {A : Type 0} → (A → Type 0) → (A → ℕ) → ℕ → Type 0
Says {A} Allowed number_of r = (x : A) × Allowed x × (r ≡ number_of x)

-- the lent set: written unless the call is refused
abbrev pub set_after : ℕ → Result Set Refusal → ℕ
set_after s (Err r) = s
set_after s (Ok t) = num t

-- the message that four numbers stand for
abbrev pub message : ℕ → ℕ → ℕ → ℕ → Message
message kind from to round = record { kind = kind; from = record { 0 = from }; to = record { 0 = to }; round = record { 0 = round } }

-- whether anything was done: a message taken, or a round opened
abbrev pub done : Result Answer Refusal → Bool
done (Err r) = false
done (Ok Old) = false
done (Ok Stray) = false
done (Ok Repeat) = false
done (Ok (Taken v)) = true
done (Ok (Opened v)) = true

-- the receivers of NOTIFY, GRANT, ACK and DONE, as four sets
abbrev pub four_sets : Receivers → List ℕ
four_sets s = s.notify ∷ s.grant ∷ s.ack ∷ s.done ∷ []

-- the lent record and the lent sets: written if anything was done, else as found
abbrev pub record_after : List ℕ → Outcome → List ℕ
record_after kept out = cond (done out.answer) (put_state kept 0 out.state) kept

abbrev pub sends_after : List ℕ → Outcome → List ℕ
sends_after sends out = cond (done out.answer) (sets sends 0 (four_sets out.sends)) sends

-- A controller's call, with the record and the sets as found and as left, and its result.
pub record Leaves (out : Outcome) (kept sends kept' sends' : List ℕ) (r : ℕ) : Type 0 where
  pub kept_after : kept' ≡ record_after kept out
  pub sends_left : sends' ≡ sends_after sends out
  pub result : r ≡ answer out.answer

-- a step of a bench
pub record StepLeaves (out : After) (b : Bench) (r : ℕ) : Type 0 where
  pub bench_after : b ≡ out.bench
  pub result : r ≡ answer out.answer

-- a list of steps
pub record RunLeaves (out : Run) (b : Bench) (answers : List ℕ) (r : ℕ) : Type 0 where
  pub bench_after : b ≡ out.bench
  pub answers_after : answers ≡ out.answers
  pub result : r ≡ ran out.checked
