-- From every node of every accepted graph there is a run of one round, each message of which has arrived: after the opening, deliveries
-- alone. Assumes nothing.
use mathlib.Core.Path.{◌≡◌, refl, sym, ap, ◌∙◌, subst}
use mathlib.Core.Bool.{Bool, true, cond}
use mathlib.Core.Logic.{inl, inr}
use mathlib.Core.List.Memᴰ
use mathlib.Core.List.{List, [], ◌∷◌, ◌++◌, Memᴰ}
use mathlib.Core.List.Memᴰ.{head as here}
use mathlib.Core.List.Memᴰ.{tail as there}
use Prim.Native.Nat.{ℕ, ◌*◌, ◌≤◌, ◌<◌}
use native.Mathlib.Omega.{arith}
use lib.ListN.{length}
use Rattle.std.specs.Prelude.{Ok}
use Rattle.records.specs.Rounds.{last_round}
use Rattle.waits.specs.Waits.{edges}
use Rattle.waits.specs.Rows.{waits_of}
use Rattle.waits.specs.Numbers.{check_of}
use Rattle.lent.specs.declared.steps.Step.{Step}
use Rattle.bench.specs.Bench.{Bench, fresh, room_of}
use Rattle.rounds.specs.History.{openings}
use Rattle.demands.specs.Turns.{Turn, turn, turns, accepted, opening, event_of, heard, Opened, CanAllArrive}
use Rattle.demands.specs.Demands.{Demand3}
use Rattle.demands.specs.SameEnd.{OneRoundFrom, ThereAreSuchRuns}
use Rattle.demands.proofs.Rounds.{stands}
use Rattle.demands.proofs.Arriving.{step_places}
use Rattle.demands.proofs.Demands.{demand_3}

-- ---- the turns of a list of steps
module _ (n : ℕ) (rows : List ℕ) (b : Bench) where
  -- are there when more steps are taken
  still_there : (more l : List Step) (t : Turn) → Memᴰ t (turns n rows b l) → Memᴰ t (turns n rows b (more ++ l))
  still_there [] l t i = i
  still_there (x ∷ more) l t i = there (still_there more l t i)

  -- each takes a step of the list
  step_of : (l : List Step) (t : Turn) → Memᴰ t (turns n rows b l) → Memᴰ t.step l
  step_of (x ∷ l) t (here e) = here (ap (λ (y : Turn). y.step) e)
  step_of (x ∷ l) t (there i) = there (step_of l t i)
  step_of [] t x' = elim x' [ ]

module _ (n : ℕ) (rows : List ℕ) (ok : check_of n rows ≡ Ok tt) (s round : ℕ) (node : s < n) (range : (0 < round) × (round ≤ last_round))
    (messages : List ℕ) (enough : 4 * edges (waits_of n rows) ≤ room_of (length messages)) where
  abbrev start : Bench
  start = fresh n messages

  abbrev opens : Turn
  opens = turn n rows start (opening s round)

  third : (steps : List Step) → Demand3 n rows messages steps
  third steps = demand_3 n rows messages steps ok

  -- ---- the round is opened, and there is room for it
  one_opened : openings (event_of opens ∷ []) ≡ 1
  unfolding event_of
  one_opened = refl

  room_for_one : (k : ℕ) → k ≡ 1 → 4 * edges (waits_of n rows) * k ≤ room_of (length messages)
  room_for_one k e = subst (λ (x : ℕ). 4 * edges (waits_of n rows) * x ≤ room_of (length messages)) (sym e) (omega (arith, enough))

  takes : accepted opens.gave.answer ≡ true
  takes = elim ((third []).opens s round node range) [
    | inl e ↦ e
    | inr e ↦ absurd ((third []).room_enough (opening s round) (room_for_one _ one_opened) e)
  ]

  can_arrive : CanAllArrive n rows start (opening s round ∷ [])
  can_arrive = (third (opening s round ∷ [])).can_arrive
      (subst (λ (x : ℕ). 4 * edges (waits_of n rows) * openings (heard (opens ∷ [])) ≤ room_of x)
      (sym (step_places n rows start (stands n rows messages [] ok).good (opening s round)))
      (room_for_one _ (ap (λ (t : Bool). openings (cond t (event_of opens ∷ []) [])) takes ∙ one_opened)))

  -- ---- deliveries open nothing
  only_opening : (more : List Step) → ((x : Step) → Memᴰ x more → x.kind ≡ 1) → (t other : ℕ)
      → Opened (turns n rows start (more ++ opening s round ∷ [])) t other → other ≡ round
  only_opening more deliveries t other (u, i, e, f) = elim (Memᴰ.append_cases more (step_of n rows start _ u i)) [
    | inl j ↦ absurd (let k = deliveries u.step j in let z = ap (λ (x : Step). x.kind) e in omega arith)
    | inr j ↦ ap (λ (x : Step). x.b) (sym e ∙ Memᴰ.eq_of_singleton j)
  ]

  pub such_run : (steps : List Step) × OneRoundFrom n rows s (record { messages = messages; steps = steps }) round
  such_run =
      let (more, deliveries, all) = can_arrive in (
        more ++ opening s round ∷ [],
        record {
          opened = (opens, still_there n rows start more (opening s round ∷ []) opens (here refl), refl, takes);
          no_other = only_opening more deliveries;
          delivered = λ k h e. all k h;
        },
      )

-- Theorem: there are such runs.
pub there_are : ThereAreSuchRuns
there_are = such_run
