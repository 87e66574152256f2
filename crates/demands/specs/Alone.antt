-- One controller by itself: told its row and its IN, it does with its record what its node on a bench does; and what its opening says
-- at once. Assumes nothing.
use Rattle.std.specs.Prelude.{◌≡◌, List, ℕ, ◌≤◌, ◌<◌, length, get_or, Ok, Option}
use Rattle.records.specs.Rounds.{last_round}
use Rattle.records.specs.Records.{State}
use Rattle.waits.specs.Waits.{in_of}
use Rattle.waits.specs.Rows.{row_size, row_at, waits_of}
use Rattle.waits.specs.Numbers.{check_of}
use Rattle.step.specs.declared.answers.Verdict.{Verdict}
use Rattle.step.specs.declared.answers.Answer.TheVariants.{Opened}
use Rattle.step.specs.Step.{seen_in, open_round, receive}
use Rattle.step.specs.Answers.{said_at_once}
use Rattle.node.specs.Calls.{own, open_of, deliver_of}
use Rattle.lent.specs.declared.steps.Step.{Step}
use Rattle.lent.specs.Kept.{state_at}
use Rattle.lent.specs.Coded.{message_of}
use Rattle.bench.specs.Bench.{Bench, fresh}
use Rattle.bench.specs.Strange.{Good}
use Rattle.bench.specs.Steps.{letter_at}
use Rattle.demands.specs.Turns.{after_steps}

-- these six numbers are the row of node i
abbrev pub OwnRow : ℕ → List ℕ → ℕ → List ℕ → Type 0
OwnRow n rows i row = (i < n) × (length row ≡ row_size) × (row_at row 0 ≡ row_at rows i)

pub record Alone (n : ℕ) (rows : List ℕ) : Type 0 where
  -- On a bench that isn't refused: any round above its record's that there is can be opened, and any message that was sent can be
  -- delivered, whoever it is for.
  pub opens : (b : Bench) → Good n rows b → (i : ℕ) (row : List ℕ) → OwnRow n rows i row → (round : ℕ) → (state_at b.records i).round < round → round ≤ last_round
      → open_of n i row (in_of (waits_of n rows) i) (state_at b.records i) round ≡ open_round (seen_in (waits_of n rows) i) round
  pub delivers : (b : Bench) → Good n rows b → (i : ℕ) (row : List ℕ) → OwnRow n rows i row → (k : ℕ) → k < b.sent
      → deliver_of n i row (in_of (waits_of n rows) i) (state_at b.records i) (message_of (get_or b.messages k 0))
      ≡ receive (seen_in (waits_of n rows) i) (state_at b.records i) (letter_at b k)
  -- An opening says nothing at once, but of an active node that nobody waits on, whatever row and IN it is told.
  pub at_once : (me : ℕ) (row : List ℕ) (ins : ℕ) (s : State) (round : ℕ) (v : Option Verdict) → (open_of n me row ins s round).answer ≡ Ok (Opened v)
      → v ≡ said_at_once (own me row ins)
  -- Every bench that was worked from a fresh start, over an accepted graph, is one.
  pub worked : check_of n rows ≡ Ok tt → (messages : List ℕ) (steps : List Step) → Good n rows (after_steps n rows (fresh n messages) steps)
