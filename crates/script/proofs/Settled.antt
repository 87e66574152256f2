-- What the parser's promise settles: no script, or a script whose rows and steps stand in the lent lists. Assumes nothing.
use mathlib.Core.Path.{◌≡◌, refl, ap, ◌∙◌}
use mathlib.Core.Bool.{true, false}
use mathlib.Core.List.{List, ◌++◌}
use mathlib.Core.Logic.{⊎_elim}
use Prim.Native.Nat.{ℕ, ◌≤◌}
use native.Mathlib.Omega.{arith}
use lib.Dec.{leb}
use lib.ListN.{length, get_or, take, drop, length-drop}
use lib.Seq.{sets, take_at, drop_at, take-append-le, drop-append-le}
use Rattle.lemmas.proofs.Stores.{in_front_lem}
use Rattle.lemmas.proofs.Tests.{and_left, true_or_false}
use Rattle.script.specs.declared.script.Shape.{Shape}
use Rattle.std.specs.Prelude.{Some, None}
use Rattle.script.specs.Numbers.{numbers_of}
use Rattle.script.specs.Steps.{steps_of}
use Rattle.script.specs.Script.{most, most_numbers, longest, Script, Meant, script_of, meant_by, numbers_read, shape_of, steps_in, ParseSays}
use Rattle.script.specs.Script.Meant.{NoScript, IsScript}
use Rattle.script.proofs.Triples.{steps_length}
use Rattle.script.proofs.Parsing.{plain, meant_script, meant_none, some_read}
use Rattle.script.proofs.Shapes.{from, count, rest, script, shape, Passed, is_script, passed_numbers}
use Rattle.script.proofs.Told.{not_none, no_shape, told_passed}

-- a script, where its parts stand, and how large they are
pub record Stands (read found left : List ℕ) (s : Script) (h : Shape) : Type 0 where
  pub nodes : h.nodes ≡ s.nodes
  pub rows : take h.rows (drop 2 read) ≡ s.rows
  pub room : h.room ≡ s.room
  pub steps : take h.steps left ≡ s.steps
  pub others : drop h.steps left ≡ drop h.steps found
  pub few_rows : h.rows ≤ most
  pub small_room_lem : h.room ≤ most
  pub few_steps : h.steps ≤ most

-- of numbers that pass all tests
passed_stands : (l numbers steps : List ℕ) → Passed l → length l ≤ length numbers → most ≤ length steps
    → Stands (sets numbers 0 l) steps (sets steps 0 (steps_of (rest l))) (script l) (shape l)
passed_stands l numbers steps p m n =
    let c = get_or l 1 0 in
    let coded : length (steps_of (rest l)) ≡ count l = steps_length (count l) (rest l) (length-drop (from l) l ∙ p.size) in
    let front =
    in_front_lem steps (steps_of (rest l)) (omega (arith, p.few_steps)) ∙ ap (λ (k : ℕ). steps_of (rest l) ++ drop k steps) coded in
    record {
      nodes = refl;
      rows =
          ap (λ (x : List ℕ). take c (drop 2 x)) (in_front_lem numbers l m)
          ∙ ap (take c) (drop-append-le 2 l (drop (length l) numbers) (omega (arith, p.enough)))
          ∙ take-append-le c (drop 2 l) (drop (length l) numbers) (omega (arith, p.enough, length-drop 2 l));
      room = refl;
      steps = ap (take (count l)) front ∙ take_at (steps_of (rest l)) (drop (count l) steps) (count l) coded;
      others = ap (drop (count l)) front ∙ drop_at (steps_of (rest l)) (drop (count l) steps) (count l) coded;
      few_rows = p.few_rows;
      small_room_lem = p.small_room_lem;
      few_steps = p.few_steps;
    }

module _ (bytes numbers steps numbers' steps' : List ℕ) where
  pub parse_none : ParseSays bytes numbers steps numbers' steps' None → meant_by bytes ≡ NoScript
  parse_none p = no_shape (meant_by bytes) p.answer

  pub parse_script : most_numbers ≤ length numbers → most ≤ length steps → (h : Shape) → ParseSays bytes numbers steps numbers' steps' (Some h)
      → (s : Script) × (meant_by bytes ≡ IsScript s) × Stands numbers' steps steps' s h
  parse_script m n h p =
      ⊎_elim
      (λ (t : plain bytes ≡ true). is (meant_script bytes t) (some_read bytes (and_left (leb (length bytes) longest) (numbers_of bytes).good t)))
      (λ (t : plain bytes ≡ false). absurd (not_none (p.answer ∙ ap shape_of (meant_none bytes t))))
      (true_or_false (plain bytes))
    where
      l : List ℕ
      l = (numbers_of bytes).numbers

      is : meant_by bytes ≡ script_of l → numbers_read bytes ≡ l → (s : Script) × (meant_by bytes ≡ IsScript s) × Stands numbers' steps steps' s h
      is e r =
          let q = told_passed l h (p.answer ∙ ap shape_of e) in
          let k : meant_by bytes ≡ IsScript (script l) = e ∙ is_script l q.0 in
          let a : numbers' ≡ sets numbers 0 l = p.read ∙ ap (sets numbers 0) r in
          let b : steps' ≡ sets steps 0 (steps_of (rest l)) = p.coded ∙ ap (λ (x : Meant). sets steps 0 (steps_in x)) k in (
            script l,
            k,
            rw (a, b, q.1) (passed_stands l numbers steps q.0 (omega (arith, passed_numbers l q.0)) n),
          )
