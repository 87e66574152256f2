-- One round of one graph in two orders, computed: the messages differ, and so does who called whom; the end is the same. Assumes
-- nothing.
use mathlib.Core.Path.{◌≡◌, refl, subst}
use mathlib.Core.Bool.{Bool, true, false, not, ◌&&◌, ◌||◌, false≢true}
use mathlib.Core.Logic.{⊎_elim}
use mathlib.Core.List.Memᴰ
use mathlib.Core.List.{List, [], ◌∷◌, ◌++◌, map, reverse, Memᴰ}
use mathlib.Core.List.Memᴰ.{head as here}
use mathlib.Core.List.Memᴰ.{tail as there}
use Prim.Native.Nat.{ℕ}
use lib.Dec.{eqb}
use lib.ListN.{take, replicate}
use borrow.Author.Tests.{eqb-true, not-false}
use Rattle.lemmas.specs.Lists.{any_below}
use Rattle.lemmas.proofs.Any.{none_below}
use Rattle.lemmas.proofs.Tests.{or_cases, and_left, and_right}
use Rattle.lemmas.proofs.Those.{those_from}
use Rattle.records.specs.declared.messages.Kind.TheVariants.{Notify, Grant, Ack, Done}
use Rattle.records.specs.declared.causes.Why.TheVariants.{By}
use Rattle.records.specs.Messages.{Letter}
use Rattle.step.specs.declared.answers.Verdict.TheVariants.{Deadlocked}
use Rattle.step.specs.Letters.{letter}
use Rattle.lent.specs.Kept.{state_at}
use Rattle.lent.specs.Coded.{number_of}
use Rattle.bench.proofs.Open.{open_bench}
use Rattle.rounds.specs.History.{Event}
use Rattle.rounds.proofs.Open.{open_rounds}
use Rattle.rounds.proofs.ManyRounds.{rounds, rounds_listed}
use Rattle.demands.specs.Turns.{Turn, accepted, opening, delivery, event_of, heard, Opened, Arrived, verdicts_given, called_on, free_on}
use Rattle.demands.specs.SameEnd.{Log, now, past, OneRoundFrom}
use Rattle.demands.proofs.Past.{opened_heard}

-- 1 = 2 ∧ 3, 2 active, 3 = 1 ∧ 2: the NOTIFY that comes first calls 2, that of 1 or that of 3.
abbrev rows : List ℕ
rows = 2 ∷ 0 ∷ 0b110 ∷ 0 ∷ 0 ∷ 0 ∷ 0 ∷ 0 ∷ 0 ∷ 0 ∷ 0 ∷ 0 ∷ 2 ∷ 0 ∷ 0b011 ∷ 0 ∷ 0 ∷ 0 ∷ []

-- the oldest message first, in just the room that the messages take
abbrev oldest_first : Log
oldest_first = record {
  messages = replicate 12 0;
  steps = reverse (opening 0 1 ∷ map delivery (0 ∷ 1 ∷ 2 ∷ 3 ∷ 4 ∷ 5 ∷ 6 ∷ 7 ∷ 8 ∷ 9 ∷ 10 ∷ 11 ∷ []));
}

-- The newest first, in another round and in more room, with something in its places. In between a message that isn't there yet and a
-- second opening of the round are refused, and some messages come again.
abbrev newest_first : Log
newest_first = record {
  messages = replicate 20 1;
  steps = reverse
      (opening 0 7 ∷ map delivery (1 ∷ 11 ∷ 3 ∷ 5 ∷ 6 ∷ 4 ∷ 3 ∷ 7 ∷ 8 ∷ [])
      ++ opening 1 7 ∷ map delivery (2 ∷ 9 ∷ 10 ∷ 0 ∷ 0 ∷ 11 ∷ 1 ∷ []));
}

-- ---- a run of one round from node 0, by tests
abbrev opens : Turn → Bool
opens t = eqb t.step.kind 0 && accepted t.gave.answer

abbrev delivers : ℕ → Turn → Bool
delivers k t = eqb t.step.kind 1 && (eqb t.step.a k && accepted t.gave.answer)

abbrev delivered : ℕ → List Turn → Bool
delivered k [] = false
delivered k (t ∷ l) = delivers k t || delivered k l

arrived : (k : ℕ) (l : List Turn) → delivered k l ≡ true → Arrived l k
arrived k [] e = absurd (false≢true e)
arrived k (t ∷ l) e =
    let ih = arrived k l in
    ⊎_elim
    (λ (h : delivers k t ≡ true).
    let r = and_right (eqb t.step.kind 1) _ h in
    (t, here refl, eqb-true t.step.kind 1 (and_left _ _ h), eqb-true t.step.a k (and_left _ _ r), and_right (eqb t.step.a k) _ r))
    (λ (h : delivered k l ≡ true). let a = ih h in (a.0, there a.1, a.2, a.3, a.4))
    (or_cases (delivers k t) (delivered k l) e)

module _ (a : Log) (round : ℕ) where
  by_tests : Opened (past 3 rows a) 0 round → rounds (heard (past 3 rows a)) ≡ round ∷ []
      → any_below (λ k. not (delivered k (past 3 rows a))) (now 3 rows a).sent ≡ false → OneRoundFrom 3 rows 0 a round
  by_tests opened all had = record {
    opened = opened;
    no_other = λ t other o. Memᴰ.eq_of_singleton (subst (λ (x : List ℕ). Memᴰ other x) all
        (rounds_listed (heard (past 3 rows a)) (Event.opens t other) (opened_heard 3 rows a.messages a.steps t other o)));
    delivered = λ k h e. arrived k (past 3 rows a) (not-false (delivered k (past 3 rows a)) (none_below _ (now 3 rows a).sent k h had));
  }

  -- What it came to: its messages, who called node 1, and its end.
  pub record ComesTo (letters : List Letter) (caller : ℕ) : Type 0 where
    pub from_node_0 : OneRoundFrom 3 rows 0 a round
    pub sent_list : take (now 3 rows a).sent (now 3 rows a).messages ≡ map number_of letters
    pub called_by : (state_at (now 3 rows a).records 1).call ≡ By (record { 0 = caller })
    pub verdict : verdicts_given round (past 3 rows a) ≡ Deadlocked ∷ []
    pub called : called_on 3 (now 3 rows a) ≡ 0b111
    pub free : free_on 3 (now 3 rows a) ≡ 0b010
    pub sent : (now 3 rows a).sent ≡ 12

-- Theorems: what came of it, the oldest message first and the newest first.
pub oldest_comes : ComesTo oldest_first 1
    (letter Notify 0 1 1 ∷ letter Notify 0 2 1 ∷ letter Grant 1 0 1 ∷ letter Grant 1 2 1 ∷ letter Notify 2 0 1 ∷ letter Notify 2 1 1
    ∷ letter Ack 0 1 1 ∷ letter Ack 2 1 1 ∷ letter Done 0 2 1 ∷ letter Done 1 2 1 ∷ letter Done 1 0 1 ∷ letter Done 2 0 1 ∷ [])
    0
unfolding open_bench open_rounds event_of verdicts_given called_on free_on
oldest_comes = record {
  from_node_0 = by_tests oldest_first 1 (let r = those_from opens (past 3 rows oldest_first) _ (here refl) in (_, r.0, refl, refl)) refl refl;
  sent_list = refl;
  called_by = refl;
  verdict = refl;
  called = refl;
  free = refl;
  sent = refl;
}

pub newest_comes : ComesTo newest_first 7
    (letter Notify 0 1 7 ∷ letter Notify 0 2 7 ∷ letter Notify 2 0 7 ∷ letter Notify 2 1 7 ∷ letter Grant 1 0 7 ∷ letter Grant 1 2 7
    ∷ letter Ack 2 1 7 ∷ letter Ack 0 1 7 ∷ letter Done 1 2 7 ∷ letter Done 0 2 7 ∷ letter Done 2 0 7 ∷ letter Done 1 0 7 ∷ [])
    2
unfolding open_bench open_rounds event_of verdicts_given called_on free_on
newest_comes = record {
  from_node_0 = by_tests newest_first 7 (let r = those_from opens (past 3 rows newest_first) _ (here refl) in (_, r.0, refl, refl)) refl refl;
  sent_list = refl;
  called_by = refl;
  verdict = refl;
  called = refl;
  free = refl;
  sent = refl;
}
