-- Where there is room enough, one delivery after another brings every message to its receiver. Assumes nothing.
use mathlib.Core.Path.{◌≡◌, refl, sym, ap, ◌∙◌, subst}
use mathlib.Core.Bool.{Bool, true, cond}
use mathlib.Core.Logic.{inl, inr}
use mathlib.Core.List.Memᴰ
use mathlib.Core.List.{List, [], ◌∷◌, ◌++◌, map, append_assoc}
use mathlib.Core.List.Memᴰ.{head as here}
use mathlib.Core.List.Memᴰ.{tail as there}
use Prim.Native.Nat.{ℕ, zero, suc, ◌+◌, ◌*◌, ◌≤◌, ◌<◌}
use native.Mathlib.Decide.{dec_lt, ℕ_discrete}
use native.Mathlib.Omega.{arith}
use lib.Dec.{ltb}
use lib.ListN.{length}
use lib.Seq.{length-sets}
use Rattle.std.specs.Prelude.{Ok}
use Rattle.lemmas.proofs.Cases.{both_branches}
use Rattle.waits.specs.Waits.{Waits, edges}
use Rattle.waits.specs.Rows.{waits_of}
use Rattle.waits.specs.Numbers.{check_of}
use Rattle.step.specs.Step.{Outcome, seen_in, open_round}
use Rattle.step.specs.Letters.{letters_of}
use Rattle.lent.specs.declared.steps.Step.{Step}
use Rattle.lent.specs.Coded.{number_of}
use Rattle.bench.specs.Bench.{Bench, After, fresh, room, room_of}
use Rattle.bench.specs.Strange.{Good}
use Rattle.bench.specs.Steps.{join, arrive_at, step_on}
use Rattle.bench.proofs.Sound.{good_sound}
use Rattle.bench.proofs.Ways.{Way, step_way}
use Rattle.bench.proofs.Ways.Way.{refused, opened, arrived}
use Rattle.bench.proofs.Keeping.{step_taken}
use Rattle.rounds.specs.History.{openings}
use Rattle.demands.specs.Turns.{Turn, turn, turns, after_steps, accepted, delivery, event_of, heard, Arrived, CanAllArrive}
use Rattle.demands.proofs.Heard.{all_stand, step_kept}
use Rattle.demands.proofs.Steps.{delivers}
use Rattle.demands.proofs.Rounds.{room_enough}

-- ---- a step leaves as many places for messages as there were
join_places : (b : Bench) (highest i : ℕ) (out : Outcome) → length (join b highest i out).bench.messages ≡ length b.messages
unfolding join
join_places b highest i out =
    both_branches (λ (a : After). length a.bench.messages ≡ length b.messages) (ltb (room b) (b.sent + length (letters_of i out.state.round out.sends)))
    refl (length-sets b.messages b.sent (map number_of (letters_of i out.state.round out.sends)))

way_places : (w : Waits) (b : Bench) {a : After} → Way w b a → length a.bench.messages ≡ length b.messages
unfolding arrive_at
way_places w b (refused number h) = refl
way_places w b (opened i round h e) = join_places b round i (open_round (seen_in w i) round)
way_places w b (arrived k h) = join_places b b.highest _ _

pub step_places : (n : ℕ) (rows : List ℕ) (b : Bench) → Good n rows b → (x : Step) → length (step_on n rows b x).bench.messages ≡ length b.messages
step_places n rows b good x =
    subst (λ (a : After). length a.bench.messages ≡ length b.messages) (step_taken n rows b good x) (way_places (waits_of n rows) b (step_way (waits_of n rows) b x))

module _ (n : ℕ) (rows messages : List ℕ) (ok : check_of n rows ≡ Ok tt) where
  abbrev now : List Step → Bench
  now = after_steps n rows (fresh n messages)

  abbrev past : List Step → List Turn
  past = turns n rows (fresh n messages)

  -- the room is enough for all rounds opened
  abbrev Enough : List Step → Type 0
  Enough steps = 4 * edges (waits_of n rows) * openings (heard (past steps)) ≤ room (now steps)

  -- the first j messages have arrived
  abbrev Had : List Step → ℕ → Type 0
  Had steps j = (k : ℕ) → k < j → Arrived (past steps) k

  good : (steps : List Step) → Good n rows (now steps)
  good steps = (all_stand n rows messages ok steps).good

  -- ---- message j is delivered
  module _ (steps : List Step) (j : ℕ) (enough : Enough steps) (sent : j < (now steps).sent) where
    abbrev next : Turn
    next = turn n rows (now steps) (delivery j)

    -- it opens nothing
    same_openings : openings (event_of next ∷ heard (past steps)) ≡ openings (heard (past steps))
    unfolding event_of
    same_openings = refl

    takes : accepted next.gave.answer ≡ true
    takes = elim (delivers n rows (now steps) j (good steps) sent) [
      | inl e ↦ e
      | inr e ↦ absurd (room_enough n rows messages steps ok (delivery j)
          (subst (λ (x : ℕ). 4 * edges (waits_of n rows) * x ≤ room (now steps)) (sym same_openings) enough) e)
    ]

    same_room : room (now (delivery j ∷ steps)) ≡ room (now steps)
    same_room = ap room_of (step_places n rows (now steps) (good steps) (delivery j))

    still_enough : Enough (delivery j ∷ steps)
    still_enough =
        let so = ap (λ (t : Bool). openings (cond t (event_of next ∷ heard (past steps)) (heard (past steps)))) takes ∙ same_openings in
        subst (λ (x : ℕ). 4 * edges (waits_of n rows) * x ≤ room (now (delivery j ∷ steps))) (sym so)
        (subst (λ (x : ℕ). 4 * edges (waits_of n rows) * openings (heard (past steps)) ≤ x) (sym same_room) enough)

    one_more : Had steps j → Had (delivery j ∷ steps) (suc j)
    one_more had k h = elim (ℕ_discrete k j) [
      | yes e ↦ (next, here refl, refl, sym e, takes)
      | no d ↦ let a = had k (omega (arith, d)) in (a.0, there a.1, a.2, a.3, a.4)
    ]

  -- what can be after a delivery can be before it
  before : (steps : List Step) (j : ℕ) → CanAllArrive n rows (fresh n messages) (delivery j ∷ steps) → CanAllArrive n rows (fresh n messages) steps
  before steps j (more, deliveries, all) = (
    more ++ delivery j ∷ [],
    λ x m. elim (Memᴰ.append_cases more m) [
      | inl i ↦ deliveries x i
      | inr i ↦ ap (λ (y : Step). y.kind) (Memᴰ.eq_of_singleton i)
    ],
    subst (λ (l : List Step). (k : ℕ) → k < (now l).sent → Arrived (past l) k) (sym (append_assoc more (delivery j ∷ []) steps)) all,
  )

  -- one after the other; there are never more than the room holds
  onward : (fuel : ℕ) (steps : List Step) (j : ℕ) → Enough steps → j ≤ (now steps).sent → Had steps j → room (now steps) < fuel + j
      → CanAllArrive n rows (fresh n messages) steps
  onward zero steps j enough low had h = absurd (let w = (good_sound n rows (now steps) (good steps)).within in omega arith)
  onward (suc fuel) steps j enough low had h = elim (dec_lt j (now steps).sent) [
    | no d ↦ ([], λ x m. absurd (elim m [ ]), λ k i. had k (omega (arith, d)))
    | yes l ↦ before steps j
        (onward fuel (delivery j ∷ steps) (suc j) (still_enough steps j enough l) (omega (arith, (step_kept n rows messages ok steps (delivery j)).more))
        (one_more steps j enough l had) (omega (arith, same_room steps j enough l)))
  ]

  -- Theorem: every message sent can arrive.
  pub can_arrive : (steps : List Step) → Enough steps → CanAllArrive n rows (fresh n messages) steps
  can_arrive steps enough = onward (suc (room (now steps))) steps 0 enough (omega arith) (λ k h. absurd (omega arith)) (omega arith)
