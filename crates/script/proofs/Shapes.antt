-- A script's numbers by their places: which tests they must pass, and what script they then are. Assumes nothing.
use mathlib.Core.Path.{◌≡◌, refl, sym, ap, ap₂, ◌∙◌}
use mathlib.Core.Bool.{Bool, true, false, cond, ◌&&◌}
use mathlib.Core.List.{List, [], ◌∷◌}
use mathlib.Core.Logic.{◌⊎◌, inl, inr, ⊎_elim}
use Prim.Native.Nat.{ℕ, suc, ◌+◌, ◌-◌, ◌*◌, ◌≤◌, ◌<◌}
use native.Mathlib.Omega.{arith}
use lib.Dec.{leb, eqb}
use lib.ListN.{length, get_or, take, drop, length-drop}
use lib.Seq.{drop-cons, take_all, length-take-le}
use borrow.Author.Tests.{leb-true, leb-false, le-leb, eq-eqb, eqb-true}
use Rattle.lemmas.proofs.Cases.{at_true, at_false}
use Rattle.lemmas.proofs.Tests.{and_intro, and_left, and_right, true_or_false}
use Rattle.script.specs.declared.script.Shape.{Shape}
use Rattle.std.specs.Prelude.{Some, None}
use Rattle.script.specs.Steps.{good_steps, steps_of}
use Rattle.script.specs.Script.{most, most_numbers, Script, with_rows, script_of, shape_of}
use Rattle.script.specs.Script.Meant.{NoScript, IsScript}
use Rattle.script.proofs.Triples.{steps_length}

-- a part up to the end, as a slice from k on gives it
abbrev pub tail : List ℕ → ℕ → List ℕ
tail l k = take (length l - k) (drop k l)

pub tail_drop : (l : List ℕ) (k : ℕ) → tail l k ≡ drop k l
tail_drop l k = take_all (length l - k) (drop k l) (omega (arith, length-drop k l))

-- ---- the places: rows from 2 on, then the room, how many steps, and the steps
abbrev pub from : List ℕ → ℕ
from l = get_or l 1 0 + 4

abbrev pub room : List ℕ → ℕ
room l = get_or l (from l - 2) 0

abbrev pub count : List ℕ → ℕ
count l = get_or l (from l - 1) 0

abbrev pub rest : List ℕ → List ℕ
rest l = drop (from l) l

abbrev pub script : List ℕ → Script
script l = record { nodes = get_or l 0 0; rows = take (get_or l 1 0) (drop 2 l); room = room l; steps = steps_of (rest l) }

abbrev pub shape : List ℕ → Shape
shape l = record { nodes = get_or l 0 0; rows = get_or l 1 0; room = room l; steps = count l }

abbrev tests : List ℕ → Bool
tests l = leb (get_or l 1 0) most && (leb (room l) most && (leb (count l) most && (eqb (length (rest l)) (3 * count l) && good_steps (rest l))))

-- ---- too few numbers
short : (nodes c : ℕ) (rows l : List ℕ) → length l < 2 → with_rows nodes c rows l ≡ NoScript
unfolding with_rows
short nodes c rows [] h = refl
short nodes c rows (r ∷ []) h = refl
short nodes c rows (r ∷ s ∷ l) h = absurd (omega arith)

pub lacks : (l : List ℕ) → length l < from l → script_of l ≡ NoScript
unfolding script_of
lacks [] h = refl
lacks (n ∷ []) h = refl
lacks (n ∷ c ∷ l) h = short n c (take c l) (drop c l) (omega (arith, length-drop c l))

-- ---- enough numbers: the tests decide
by_places : (l : List ℕ) → from l ≤ length l → script_of l ≡ cond (tests l) (IsScript (script l)) NoScript
unfolding script_of with_rows
by_places [] h = absurd (omega arith)
by_places (n ∷ []) h = absurd (omega arith)
by_places (n ∷ c ∷ l) h =
    let two : c + 4 - 2 ≡ suc (suc c) = omega arith in
    let three : c + 4 - 1 ≡ suc (suc (suc c)) = omega arith in
    let four : c + 4 ≡ suc (suc (suc (suc c))) = omega arith in
    rw (two, three, four)
    (ap (with_rows n c (take c l)) (drop-cons l c 0 (omega arith) ∙ ap (λ (m : List ℕ). get_or l c 0 ∷ m) (drop-cons l (suc c) 0 (omega arith))))

refused : (l : List ℕ) → from l ≤ length l → tests l ≡ false → script_of l ≡ NoScript
refused l enough e = by_places l enough ∙ sym (at_false (IsScript (script l)) e refl)

-- ---- either it is no script, or all tests are passed
pub record Passed (l : List ℕ) : Type 0 where
  pub enough : from l ≤ length l
  pub few_rows : get_or l 1 0 ≤ most
  pub small_room_lem : room l ≤ most
  pub few_steps : count l ≤ most
  pub size : length l - from l ≡ 3 * count l
  pub good : good_steps (tail l (from l)) ≡ true

module _ (l : List ℕ) (p : Passed l) where
  pub is_script : script_of l ≡ IsScript (script l)
  is_script =
      by_places l p.enough
      ∙ sym
      (at_true NoScript
      (and_intro (leb (get_or l 1 0) most) _ (le-leb (get_or l 1 0) most p.few_rows)
      (and_intro (leb (room l) most) _ (le-leb (room l) most p.small_room_lem)
      (and_intro (leb (count l) most) _ (le-leb (count l) most p.few_steps)
      (and_intro (eqb (length (rest l)) (3 * count l)) (good_steps (rest l)) (eq-eqb (length (rest l)) (3 * count l) (length-drop (from l) l ∙ p.size)) (ap good_steps (sym (tail_drop l (from l))) ∙ p.good)))))
      refl)

  pub shape_is : Some (shape l) ≡ shape_of (script_of l)
  shape_is =
      ap₂ (λ (c s : ℕ). Some (record { nodes = get_or l 0 0; rows = c; room = room l; steps = s }))
      (sym (length-take-le (get_or l 1 0) (drop 2 l) (omega (arith, length-drop 2 l, p.enough))))
      (sym (steps_length (count l) (rest l) (length-drop (from l) l ∙ p.size)))
      ∙ ap shape_of (sym is_script)

pub none_or_passed : (l : List ℕ) → (script_of l ≡ NoScript) ⊎ Passed l
none_or_passed l =
    ⊎_elim
    (λ (e : leb (from l) (length l) ≡ true). let h = leb-true (from l) (length l) e in
    ⊎_elim
    (λ (t : tests l ≡ true). inr (passed h t))
    (λ (t : tests l ≡ false). inl (refused l h t))
    (true_or_false (tests l)))
    (λ (e : leb (from l) (length l) ≡ false). inl (lacks l (leb-false (from l) (length l) e)))
    (true_or_false (leb (from l) (length l)))
  where
    passed : from l ≤ length l → tests l ≡ true → Passed l
    passed h t =
        let t1 = and_right (leb (get_or l 1 0) most) _ t in
        let t2 = and_right (leb (room l) most) _ t1 in
        let t3 = and_right (leb (count l) most) _ t2 in
        record {
          enough = h;
          few_rows = leb-true (get_or l 1 0) most (and_left (leb (get_or l 1 0) most) _ t);
          small_room_lem = leb-true (room l) most (and_left (leb (room l) most) _ t1);
          few_steps = leb-true (count l) most (and_left (leb (count l) most) _ t2);
          size = sym (length-drop (from l) l) ∙ eqb-true (length (rest l)) (3 * count l) (and_left (eqb (length (rest l)) (3 * count l)) (good_steps (rest l)) t3);
          good = ap good_steps (tail_drop l (from l)) ∙ and_right (eqb (length (rest l)) (3 * count l)) (good_steps (rest l)) t3;
        }

-- so where a test fails there is no shape
pub no_shape_told : (l : List ℕ) → (Passed l → ⊥) → None ≡ shape_of (script_of l)
no_shape_told l n = ⊎_elim (λ (e : script_of l ≡ NoScript). ap shape_of (sym e)) (λ (p : Passed l). absurd (n p)) (none_or_passed l)

-- a script has 32,772 numbers at most
pub passed_numbers : (l : List ℕ) → Passed l → length l ≤ most_numbers
passed_numbers l p = omega (arith, p.size, p.enough, p.few_rows, p.few_steps)

pub most_numbers_lem : (l : List ℕ) → most_numbers < length l → script_of l ≡ NoScript
most_numbers_lem l h = ⊎_elim (λ (e : script_of l ≡ NoScript). e) (λ (p : Passed l). absurd (omega (arith, passed_numbers l p))) (none_or_passed l)
