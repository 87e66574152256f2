-- The same end, whatever the order: what the end of a round looks like is said by the graph and the initiator alone. Assumes nothing.
use mathlib.Core.Path.{◌≡◌, refl, sym, ap, ◌∙◌, subst}
use mathlib.Core.Logic.{inl, inr, ◌↔◌}
use mathlib.Core.List.{List, [], ◌∷◌, Memᴰ}
use mathlib.Core.List.Memᴰ.{head as here}
use Prim.Native.Nat.{ℕ, ◌+◌, ◌*◌}
use native.Mathlib.Omega.{arith}
use lib.Dec.{eqb}
use lib.ListN.{length}
use borrow.Author.Tests.{eq-eqb}
use Rattle.std.specs.Prelude.{Ok}
use Rattle.lemmas.proofs.Those.{those_all}
use Rattle.nodes.specs.Sets.{In}
use Rattle.nodes.proofs.Inside.{same_nodes}
use Rattle.records.specs.Messages.{Letter}
use Rattle.waits.specs.Waits.{Waits}
use Rattle.waits.specs.Deadlocked.{Reachable}
use Rattle.waits.specs.Rows.{waits_of}
use Rattle.waits.specs.Numbers.{check_of}
use Rattle.step.specs.declared.answers.Verdict.{Verdict}
use Rattle.rounds.specs.Verdicts.{Right}
use Rattle.rounds.specs.Ends.{FreedFrom, leaving, entering}
use Rattle.rounds.specs.History.{since}
use Rattle.rounds.proofs.Verdicts.{one_right}
use Rattle.demands.specs.Turns.{heard, Opened, AllArrived, verdicts_given, messages_of, called_on, free_on}
use Rattle.demands.specs.Demands.{Demand3}
use Rattle.demands.specs.SameEnd.{Log, now, past, OneRoundFrom, SameEnd, WhateverTheOrder}
use Rattle.demands.proofs.Stands.{sent_count}
use Rattle.demands.proofs.Past.{heard_opened}
use Rattle.demands.proofs.Shown.{round_count}
use Rattle.demands.proofs.Rounds.{stands, rules, called_reachable, free_freed}
use Rattle.demands.proofs.Demands.{demand_3}

module _ (n : ℕ) (rows : List ℕ) (ok : check_of n rows ≡ Ok tt) (s : ℕ) where
  abbrev w : Waits
  w = waits_of n rows

  abbrev round : Log → ℕ
  round a = (now n rows a).highest

  -- ---- how the newest round of a run ends that s opened, whatever befell the rounds before it
  pub record End (a : Log) : Type 0 where
    pub verdict : Verdict
    pub said : verdicts_given (round a) (past n rows a) ≡ verdict ∷ []
    pub right : Right w s verdict
    pub called : (i : ℕ) → In i (called_on n (now n rows a)) ↔ Reachable w s i
    pub free : (i : ℕ) → In i (free_on n (now n rows a)) ↔ FreedFrom w s i
    pub count : length (messages_of (round a) (now n rows a)) ≡ 2 * leaving w (called_on n (now n rows a)) + 2 * entering w (free_on n (now n rows a))

  module _ (a : Log) where
    third : Demand3 n rows a.messages a.steps
    third = demand_3 n rows a.messages a.steps ok

    -- Theorem: it ends so, if every message of it has arrived.
    pub end : Opened (past n rows a) s (round a) → AllArrived (round a) (now n rows a) (past n rows a) → End a
    end opened arrived =
        let (v, e, right) = third.ends s opened arrived in
        let gave = subst (λ (x : List Verdict). Memᴰ v x) (sym e) (here refl) in
        let called = called_reachable n rows a.messages a.steps ok s opened v gave in
        let free = free_freed n rows a.messages a.steps ok s opened v gave in
        let (reachable, freed, r, f, c) = third.count_exactly s (round a) v opened gave in
        record {
          verdict = v;
          said = e;
          right = right;
          called = called;
          free = free;
          count = c ∙ λ k. 2 * leaving w (same_nodes reachable _ r called k) + 2 * entering w (same_nodes freed _ f free k);
        }

    -- ---- a run of one round: every message is of that round
    module _ (p : ℕ) (one : OneRoundFrom n rows s a p) where
      newest : round a ≡ p
      newest = elim third.newest [
        | inl e ↦ let h = third.higher s p one.opened in omega arith
        | inr o ↦ one.no_other o.0 (round a) o.1
      ]

      of_round_lem : (m : Letter) → Memᴰ m (since w (heard (past n rows a))).sent → m.round ≡ p
      of_round_lem m i =
          let o = (rules n rows a.messages a.steps ok).sent_opened m i in
          one.no_other o.0 m.round (heard_opened n rows a.messages a.steps o.0 m.round o.1)

      all_sent : (now n rows a).sent ≡ length (messages_of (round a) (now n rows a))
      all_sent =
          let st = stands n rows a.messages a.steps ok in
          let letters = (since w (heard (past n rows a))).sent in
          sent_count st
          ∙ ap length (sym (those_all (λ m. eqb m.round (round a)) letters (λ m i. eq-eqb m.round (round a) (of_round_lem m i ∙ sym newest))))
          ∙ sym (round_count st (round a))

      whole : End a
      whole = end (subst (Opened (past n rows a) s) (sym newest) one.opened)
          (subst (λ (r : ℕ). AllArrived r (now n rows a) (past n rows a)) (sym newest) one.delivered)

      -- what was said in it, under its own number
      said_in : verdicts_given p (past n rows a) ≡ whole.verdict ∷ []
      said_in = ap (λ (r : ℕ). verdicts_given r (past n rows a)) (sym newest) ∙ whole.said

  -- ---- two of them: each part of an end is the only one of its kind
  module _ (a b : Log) (p q : ℕ) (one : OneRoundFrom n rows s a p) (two : OneRoundFrom n rows s b q) where
    abbrev x : End a
    x = whole a p one

    abbrev y : End b
    y = whole b q two

    called : called_on n (now n rows a) ≡ called_on n (now n rows b)
    called = same_nodes _ _ x.called y.called

    free : free_on n (now n rows a) ≡ free_on n (now n rows b)
    free = same_nodes _ _ x.free y.free

    pub alike : SameEnd n rows a b p q
    alike = record {
      verdict = (x.verdict, said_in a p one, said_in b q two ∙ ap (λ (v : Verdict). v ∷ []) (one_right w s _ _ y.right x.right));
      called = called;
      free = free;
      sent = all_sent a p one ∙ x.count ∙ (λ k. 2 * leaving w (called k) + 2 * entering w (free k)) ∙ sym y.count ∙ sym (all_sent b q two);
    }

-- Theorem: the same end, whatever the order.
pub same_end : WhateverTheOrder
same_end = alike
