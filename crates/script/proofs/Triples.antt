-- Steps that stand in a list, three numbers each. Assumes nothing.
use mathlib.Core.Path.{◌≡◌, refl, sym, ap, ap₂, ◌∙◌}
use mathlib.Core.Bool.{Bool, true, false, ◌&&◌}
use mathlib.Core.List.{List, [], ◌∷◌}
use Prim.Native.Nat.{ℕ, zero, suc, ◌+◌, ◌*◌, ◌/◌, ◌^◌, ◌≤◌, ◌<◌}
use native.Mathlib.Numerals.{add-one, add-two, add-three}
use native.Mathlib.Omega.{arith}
use lib.Dec.{ltb}
use lib.ListN.{length, get_or, drop, set, length-drop, length-set}
use lib.Seq.{drop-cons, sets}
use borrow.Author.Tests.{ltb-true}
use Rattle.lemmas.proofs.Cases.{and_not, and_rest}
use Rattle.lemmas.proofs.Tests.{and_left, and_right}
use Rattle.lent.specs.Steps.{step_number}
use Rattle.script.specs.Steps.{good_step, good_steps, steps_of}

-- ---- one step
module _ (kind a b : ℕ) where
  pub good_bounds : good_step kind a b ≡ true → (kind < 2 ^ 16) × (a < 2 ^ 24) × (b < 2 ^ 24)
  unfolding good_step
  good_bounds e =
      let r = and_right (ltb kind (2 ^ 16)) (ltb a (2 ^ 24) && ltb b (2 ^ 24)) e in (
        ltb-true kind (2 ^ 16) (and_left (ltb kind (2 ^ 16)) (ltb a (2 ^ 24) && ltb b (2 ^ 24)) e),
        ltb-true a (2 ^ 24) (and_left (ltb a (2 ^ 24)) (ltb b (2 ^ 24)) r),
        ltb-true b (2 ^ 24) (and_right (ltb a (2 ^ 24)) (ltb b (2 ^ 24)) r),
      )

-- ---- the next step of a list, and the end
pub drop_three : (l : List ℕ) (at : ℕ) → at + 2 < length l
    → drop at l ≡ get_or l at 0 ∷ get_or l (at + 1) 0 ∷ get_or l (at + 2) 0 ∷ drop (at + 3) l
drop_three l at h =
    rw (add-one at, add-two at, add-three at)
    (drop-cons l at 0 (omega arith)
    ∙ ap (λ (x : List ℕ). get_or l at 0 ∷ x)
    (drop-cons l (suc at) 0 (omega arith) ∙ ap (λ (x : List ℕ). get_or l (suc at) 0 ∷ x) (drop-cons l (suc (suc at)) 0 (omega arith))))

few_good : (l : List ℕ) → length l ≤ 2 → good_steps l ≡ true
unfolding good_steps
few_good [] h = refl
few_good (a ∷ []) h = refl
few_good (a ∷ b ∷ []) h = refl
few_good (a ∷ b ∷ c ∷ l) h = absurd (omega arith)

few_none : (l : List ℕ) → length l ≤ 2 → steps_of l ≡ []
unfolding steps_of
few_none [] h = refl
few_none (a ∷ []) h = refl
few_none (a ∷ b ∷ []) h = refl
few_none (a ∷ b ∷ c ∷ l) h = absurd (omega arith)

-- as many steps as there are threes
pub steps_length : (s : ℕ) (l : List ℕ) → length l ≡ 3 * s → length (steps_of l) ≡ s
unfolding steps_of
steps_length s [] e = omega arith
steps_length s (a ∷ []) e = absurd (omega arith)
steps_length s (a ∷ b ∷ []) e = absurd (omega arith)
steps_length zero (a ∷ b ∷ c ∷ l) e = absurd (omega arith)
steps_length (suc s) (a ∷ b ∷ c ∷ l) e = ap suc (steps_length s l (omega arith))

-- step k
abbrev pub good_at : List ℕ → ℕ → Bool
good_at l k = good_step (get_or l (3 * k) 0) (get_or l (3 * k + 1) 0) (get_or l (3 * k + 2) 0)

abbrev pub step_at : List ℕ → ℕ → ℕ
step_at l k = step_number (get_or l (3 * k) 0) (get_or l (3 * k + 1) 0) (get_or l (3 * k + 2) 0)

-- the steps from k on, of as many as there are threes
pub next_three : (l : List ℕ) (k : ℕ) → k < length l / 3
    → drop (3 * k) l ≡ get_or l (3 * k) 0 ∷ get_or l (3 * k + 1) 0 ∷ get_or l (3 * k + 2) 0 ∷ drop (3 * (k + 1)) l
next_three l k h =
    let next : 3 * k + 3 ≡ 3 * (k + 1) = omega arith in
    drop_three l (3 * k) (omega arith)
    ∙ ap (λ (m : ℕ). get_or l (3 * k) 0 ∷ get_or l (3 * k + 1) 0 ∷ get_or l (3 * k + 2) 0 ∷ drop m l) next

-- ---- a walk that looks at one step after the other
module _ (l : List ℕ) (k : ℕ) where
  here : k < length l / 3 → good_steps (drop (3 * k) l) ≡ (good_at l k && good_steps (drop (3 * (k + 1)) l))
  unfolding good_steps
  here h = ap good_steps (next_three l k h)

  pub good_next : k < length l / 3 → good_at l k ≡ true
      → good_steps (drop (3 * k) l) ≡ good_steps l → good_steps (drop (3 * (k + 1)) l) ≡ good_steps l
  good_next h e i = and_rest (good_steps (drop (3 * (k + 1)) l)) e (sym (here h)) ∙ i

  pub good_not : k < length l / 3 → good_at l k ≡ false
      → good_steps (drop (3 * k) l) ≡ good_steps l → false ≡ good_steps l
  good_not h e i = and_not (good_steps (drop (3 * (k + 1)) l)) e ∙ sym (here h) ∙ i

  pub good_all : length l / 3 ≤ k → good_steps (drop (3 * k) l) ≡ good_steps l → true ≡ good_steps l
  good_all h i = sym (few_good (drop (3 * k) l) (omega (arith, length-drop (3 * k) l))) ∙ i

-- ---- a walk that writes one step after the other
pub record Coding (l found left : List ℕ) (k : ℕ) : Type 0 where
  pub good : good_steps (drop (3 * k) l) ≡ true
  pub coded : sets left k (steps_of (drop (3 * k) l)) ≡ sets found 0 (steps_of l)
  pub long : length left ≡ length found

pub coding_start : (l found : List ℕ) → good_steps l ≡ true → Coding l found found 0
coding_start l found e = record { good = e; coded = refl; long = refl }

module _ (l found left : List ℕ) (k : ℕ) (c : Coding l found left k) where
  pub coding_good : k < length l / 3 → good_at l k ≡ true
  coding_good h = and_left (good_at l k) (good_steps (drop (3 * (k + 1)) l)) (sym (here l k h) ∙ c.good)

  pub coding_next : k < length l / 3 → {x : ℕ} → x ≡ step_at l k → Coding l found (set left k x) (k + 1)
  unfolding steps_of
  coding_next h {x} e = record {
    good = and_right (good_at l k) (good_steps (drop (3 * (k + 1)) l)) (sym (here l k h) ∙ c.good);
    coded =
        ap₂ (λ (y j : ℕ). sets (set left k y) j (steps_of (drop (3 * (k + 1)) l))) e (add-one k)
        ∙ ap (λ (m : List ℕ). sets left k (steps_of m)) (sym (next_three l k h))
        ∙ c.coded;
    long = length-set left k x ∙ c.long;
  }

  pub coding_all : length l / 3 ≤ k → left ≡ sets found 0 (steps_of l)
  coding_all h = ap (sets left k) (sym (few_none (drop (3 * k) l) (omega (arith, length-drop (3 * k) l)))) ∙ c.coded
