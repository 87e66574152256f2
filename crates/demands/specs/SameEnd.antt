-- The same end, whatever the order: two runs of one round each, over the same graph and from the same node. ../proofs/SameEnd.antt
-- shows that they end alike, and ../proofs/SuchRuns.antt that there are such runs. Assumes nothing.
use Rattle.std.specs.Prelude.{◌≡◌, List, [], ◌∷◌, ℕ, ◌*◌, ◌≤◌, ◌<◌, length, Ok}
use Rattle.records.specs.Rounds.{last_round}
use Rattle.waits.specs.Waits.{edges}
use Rattle.waits.specs.Rows.{waits_of}
use Rattle.waits.specs.Numbers.{check_of}
use Rattle.step.specs.declared.answers.Verdict.{Verdict}
use Rattle.lent.specs.declared.steps.Step.{Step}
use Rattle.bench.specs.Bench.{Bench, fresh, room_of}
use Rattle.demands.specs.Turns.{after_steps, Turn, turns, Opened, AllArrived, verdicts_given, called_on, free_on}

-- A run: the list lent for messages, of any length and with anything in its places, and the steps that were taken, the newest first,
-- whatever they are, refused ones too.
pub record Log : Type 0 where
  pub messages : List ℕ
  pub steps : List Step

-- "Take two runs from a fresh start over the same graph"
module _ (n : ℕ) (rows : List ℕ) where
  abbrev pub now : Log → Bench
  now a = after_steps n rows (fresh n a.messages) a.steps

  abbrev pub past : Log → List Turn
  past a = turns n rows (fresh n a.messages) a.steps

  -- "each with one round from the same initiator, no cut, and every message of that round delivered at least once." A bench has no cuts.
  -- A delivery that was refused for want of room isn't one, so the room was large enough.
  pub record OneRoundFrom (s : ℕ) (a : Log) (round : ℕ) : Type 0 where
    pub opened : Opened (past a) s round
    pub no_other : (t other : ℕ) → Opened (past a) t other → other ≡ round
    pub delivered : AllArrived round (now a) (past a)

  -- "They end with the same verdict, the same nodes called, the same nodes free, and the same number of messages sent."
  pub record SameEnd (a b : Log) (p q : ℕ) : Type 0 where
    pub verdict : (v : Verdict) × (verdicts_given p (past a) ≡ v ∷ []) × (verdicts_given q (past b) ≡ v ∷ [])
    pub called : called_on n (now a) ≡ called_on n (now b)
    pub free : free_on n (now a) ≡ free_on n (now b)
    pub sent : (now a).sent ≡ (now b).sent

-- "Who called whom and the numbering may differ": neither is in what is the same, and the two rounds may have different numbers.
abbrev pub WhateverTheOrder : Type 0
WhateverTheOrder = (n : ℕ) (rows : List ℕ) → check_of n rows ≡ Ok tt
    → (s : ℕ) (a b : Log) (p q : ℕ) → OneRoundFrom n rows s a p → OneRoundFrom n rows s b q → SameEnd n rows a b p q

-- And there are such runs: from every node of every accepted graph, in a round of any number, in any room for four messages an edge.
abbrev pub ThereAreSuchRuns : Type 0
ThereAreSuchRuns = (n : ℕ) (rows : List ℕ) → check_of n rows ≡ Ok tt → (s round : ℕ) → s < n → (0 < round) × (round ≤ last_round)
    → (messages : List ℕ) → 4 * edges (waits_of n rows) ≤ room_of (length messages)
    → (steps : List Step) × OneRoundFrom n rows s (record { messages = messages; steps = steps }) round
