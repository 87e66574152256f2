-- Back from the shape that was told of a script's numbers: which they are. Assumes nothing.
use mathlib.Core.Path.{◌≡◌, refl, sym, ap, ◌∙◌}
use mathlib.Core.Bool.{true}
use mathlib.Core.List.{List}
use mathlib.Core.Logic.{⊎_elim}
use Prim.Native.Nat.{ℕ, ◌+◌, ◌*◌, ◌≤◌}
use native.Mathlib.Omega.{arith}
use lib.ListN.{length, get_or, length-drop}
use lib.Seq.{sets}
use Rattle.script.specs.declared.script.Shape.{Shape}
use Rattle.std.specs.Prelude.{Some, None}
use Rattle.script.specs.Steps.{good_steps, steps_of}
use Rattle.script.specs.Script.{most, Meant, script_of, shape_of, steps_in, CodeSays}
use Rattle.script.specs.Script.Meant.{NoScript, IsScript}
use Rattle.script.proofs.Shapes.{tail, tail_drop, from, shape, Passed, is_script, shape_is, none_or_passed}

pub not_none : {s : Shape} → Some s ≡ None → ⊥
not_none e = cc

pub no_shape : (m : Meant) → None ≡ shape_of m → m ≡ NoScript
no_shape NoScript e = refl
no_shape (IsScript s) e = absurd (not_none (sym e))

-- nothing is coded
pub told_none : (l steps : List ℕ) → None ≡ shape_of (script_of l) → CodeSays l steps steps None
told_none l steps e = record { answer = e; coded = ap (λ (m : Meant). sets steps 0 (steps_in m)) (sym (no_shape (script_of l) e)) }

module _ (l : List ℕ) (s : Shape) (e : Some s ≡ shape_of (script_of l)) where
  pub told_passed : Passed l × (s ≡ shape l)
  told_passed =
      ⊎_elim
      (λ (n : script_of l ≡ NoScript). absurd (not_none (e ∙ ap shape_of n)))
      (λ (p : Passed l). (p, same (e ∙ sym (shape_is l p))))
      (none_or_passed l)
    where
      same : Some s ≡ Some (shape l) → s ≡ shape l
      same f = cc

  same_rows : s.rows ≡ get_or l 1 0
  same_rows = ap (λ (x : Shape). x.rows) told_passed.1

  pub told_enough : s.rows + 4 ≤ length l
  told_enough = omega (arith, same_rows, told_passed.0.enough)

  tail_is : tail l (s.rows + 4) ≡ tail l (from l)
  tail_is = ap (λ (c : ℕ). tail l (c + 4)) same_rows

  pub told_good : good_steps (tail l (s.rows + 4)) ≡ true
  told_good = ap good_steps tail_is ∙ told_passed.0.good

  pub told_few : {n : ℕ} → most ≤ n → length (tail l (s.rows + 4)) ≤ 3 * n
  told_few h =
      let p = told_passed.0 in
      omega (arith, ap length (tail_is ∙ tail_drop l (from l)), length-drop (from l) l, p.size, p.few_steps)

  told_steps : steps_of (tail l (s.rows + 4)) ≡ steps_in (script_of l)
  told_steps = ap steps_of (tail_is ∙ tail_drop l (from l)) ∙ ap steps_in (sym (is_script l told_passed.0))

  pub told_coded : (steps : List ℕ) {steps' : List ℕ} → steps' ≡ sets steps 0 (steps_of (tail l (s.rows + 4))) → CodeSays l steps steps' (Some s)
  told_coded steps q = record { answer = e; coded = q ∙ ap (sets steps 0) told_steps }
