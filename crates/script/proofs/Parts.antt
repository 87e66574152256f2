-- A script's numbers are exactly these: the node count, how many rows, the rows, the room, how many steps, the steps. Assumes nothing.
use mathlib.Core.Path.{◌≡◌, refl, sym, ap, ap₂, ◌∙◌}
use mathlib.Core.Bool.{true}
use mathlib.Core.List.{List, ◌∷◌, ◌++◌}
use Prim.Native.Nat.{ℕ, suc, ◌+◌, ◌-◌, ◌*◌, ◌≤◌}
use native.Mathlib.Omega.{arith}
use lib.Dec.{leb, eqb}
use lib.ListN.{length, get_or, take, drop, take-append-drop}
use lib.Seq.{drop-cons, drop-drop, take-append_seam, drop-append_seam}
use borrow.Author.Tests.{le-leb, eq-eqb}
use Rattle.lemmas.proofs.Cases.{at_true}
use Rattle.lemmas.proofs.Tests.{and_intro}
use Rattle.script.specs.Steps.{good_steps, steps_of}
use Rattle.script.specs.Script.{most, with_rows, script_of}
use Rattle.script.specs.Script.Meant.{NoScript, IsScript}
use Rattle.script.proofs.Shapes.{from, room, count, rest, script, Passed}

-- such a list is a script
pub parts_script : (nodes : ℕ) (rows : List ℕ) (room s : ℕ) (l : List ℕ) → length rows ≤ most → room ≤ most → s ≤ most → length l ≡ 3 * s → good_steps l ≡ true
    → script_of (nodes ∷ length rows ∷ (rows ++ (room ∷ s ∷ l))) ≡ IsScript (record { nodes = nodes; rows = rows; room = room; steps = steps_of l })
unfolding script_of with_rows
parts_script nodes rows room s l a b c e g =
    let t = room ∷ s ∷ l in
    ap₂ (with_rows nodes (length rows)) (take-append_seam rows t) (drop-append_seam rows t)
    ∙ sym
    (at_true NoScript
    (and_intro (leb (length rows) most) _ (le-leb (length rows) most a)
    (and_intro (leb room most) _ (le-leb room most b)
    (and_intro (leb s most) _ (le-leb s most c) (and_intro (eqb (length l) (3 * s)) (good_steps l) (eq-eqb (length l) (3 * s) e) g))))
    refl)

-- a script is such a list
pub script_parts : (l : List ℕ) → Passed l → l ≡ get_or l 0 0 ∷ get_or l 1 0 ∷ ((script l).rows ++ (room l ∷ count l ∷ rest l))
script_parts l p =
    let c = get_or l 1 0 in
    let room_at : 2 + c ≡ from l - 2 = omega arith in
    let count_at : suc (2 + c) ≡ from l - 1 = omega arith in
    let rest_at : suc (suc (2 + c)) ≡ from l = omega arith in
    drop-cons l 0 0 (omega (arith, p.enough))
    ∙ ap (λ (x : List ℕ). get_or l 0 0 ∷ x)
    (drop-cons l 1 0 (omega (arith, p.enough))
    ∙ ap (λ (x : List ℕ). c ∷ x)
    (sym (take-append-drop c (drop 2 l))
    ∙ ap (λ (x : List ℕ). take c (drop 2 l) ++ x)
    (drop-drop c 2 l
    ∙ drop-cons l (2 + c) 0 (omega (arith, p.enough))
    ∙ ap₂ (λ (i : ℕ) (x : List ℕ). get_or l i 0 ∷ x) room_at
    (drop-cons l (suc (2 + c)) 0 (omega (arith, p.enough)) ∙ ap₂ (λ (i j : ℕ). get_or l i 0 ∷ drop j l) count_at rest_at))))
