-- The demands, shown: each field is a theorem of another file. Assumes nothing.
use mathlib.Core.Path.{◌≡◌, sym, ◌∙◌, subst}
use mathlib.Core.Logic.{◌⊎◌, inl, inr}
use mathlib.Core.List.{List, Memᴰ}
use Prim.Native.Nat.{ℕ, ◌*◌, ◌≤◌}
use lib.ListN.{length}
use Rattle.std.specs.Prelude.{Ok}
use Rattle.waits.specs.Waits.{edges}
use Rattle.waits.specs.Rows.{waits_of}
use Rattle.waits.specs.Numbers.{check_of}
use Rattle.step.specs.declared.answers.Verdict.{Verdict}
use Rattle.lent.specs.declared.steps.Step.{Step}
use Rattle.bench.specs.Bench.{Bench, fresh}
use Rattle.rounds.specs.History.{Opened as History-as-Opened, verdicts_of}
use Rattle.rounds.specs.ManyRounds.{ManyRounds}
use Rattle.demands.specs.Turns.{Turn, turns, after_steps, event_of, heard, Opened, verdicts_given}
use Rattle.demands.specs.Demands.{Demand3, Demands}
use Rattle.demands.proofs.Refused.{demand_1}
use Rattle.demands.proofs.Claims.{demand_2}
use Rattle.demands.proofs.Stands.{Stands, sent_count}
use Rattle.demands.proofs.Past.{opened_heard, heard_opened}
use Rattle.demands.proofs.Verdicts.{verdict_accepted, turn_answer}
use Rattle.demands.proofs.Shown.{round_count}
use Rattle.demands.proofs.Frame.{step_leaves}
use Rattle.demands.proofs.Lists.{as_a_list}
use Rattle.demands.proofs.Steps.{as_numbers, opens, opens_only}
use Rattle.demands.proofs.Rounds.{stands, rules, given, ends, evidence, room_enough}
use Rattle.demands.proofs.AtOnce.{on_bench}
use Rattle.demands.proofs.Arriving.{can_arrive}

module _ (n : ℕ) (rows messages : List ℕ) (steps : List Step) (ok : check_of n rows ≡ Ok tt) where
  abbrev now : Bench
  now = after_steps n rows (fresh n messages) steps

  abbrev past : List Turn
  past = turns n rows (fresh n messages) steps

  -- the bench stands for what was heard, and of that the rules' theorem speaks
  st : Stands n rows now (heard past)
  st = stands n rows messages steps ok

  all : ManyRounds (waits_of n rows) (heard past)
  all = rules n rows messages steps ok

  opened : (s round : ℕ) → Opened past s round → History-as-Opened (heard past) s round
  opened = opened_heard n rows messages steps

  said : (round : ℕ) (v : Verdict) → Memᴰ v (verdicts_given round past) → Memᴰ v (verdicts_of (waits_of n rows) round (heard past))
  said round v = subst (λ (x : List Verdict). Memᴰ v x) (given n rows messages steps ok round)

  newest : (now.highest ≡ 0) ⊎ ((s : ℕ) × Opened past s now.highest)
  newest = elim all.newest [
    | inl e ↦ inl (st.highest ∙ e)
    | inr o ↦ inr (o.0, heard_opened n rows messages steps o.0 now.highest (subst (History-as-Opened (heard past) o.0) (sym st.highest) o.1))
  ]

  -- Theorem: the third demand.
  pub demand_3 : Demand3 n rows messages steps
  demand_3 = record {
    one_opener = λ s t round o p. all.one_opener s t round (opened s round o) (opened t round p);
    newest = newest;
    higher = λ s round o. subst (λ (h : ℕ). round ≤ h) (sym st.highest) (all.higher s round (opened s round o));
    opens = λ s round. opens n rows now s round st.good;
    opens_only = opens_only n rows now;
    as_numbers = as_numbers;
    at_once = on_bench n rows;
    opener = λ t i v g. heard_opened n rows messages steps _ _
        (all.opener (event_of t) t.gave.answer (turn_answer n rows messages ok steps t i (verdict_accepted t.gave.answer v g)) v g);
    no_false = λ s round v o g. all.verdict_right s round (opened s round o) v (said round v g);
    one_verdict = λ round. subst (λ (x : List Verdict). length x ≤ 1) (sym (given n rows messages steps ok round)) (all.one_verdict round);
    ends = ends n rows messages steps ok;
    at_most_four = λ round. subst (λ (x : ℕ). x ≤ 4 * edges (waits_of n rows)) (sym (round_count st round)) (all.at_most_four round);
    can_arrive = can_arrive n rows messages ok steps;
    room_enough = room_enough n rows messages steps ok;
    by_rules = (st.history, st.messages);
    count = sent_count st;
    count_exactly = λ s round v o g.
        let c = all.count_exactly s round (opened s round o) v (said round v g) in
        (c.0, c.1, c.2, c.3, round_count st round ∙ c.4);
    evidence = evidence n rows messages steps ok;
    leaves = step_leaves n rows;
    as_a_list = as_a_list n rows now st.good;
  }

-- Theorem: all three.
pub demands : Demands
demands = record { first = demand_1; second = demand_2; third = demand_3 }
