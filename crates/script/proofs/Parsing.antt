-- From bytes to a script, from what was read and what was said of the numbers. Assumes nothing.
use mathlib.Core.Path.{◌≡◌, refl, sym, ap, ◌∙◌}
use mathlib.Core.Bool.{Bool, true, false, ◌&&◌}
use mathlib.Core.List.{List, []}
use mathlib.Core.Logic.{⊎_elim}
use Prim.Native.Nat.{ℕ, ◌≤◌, ◌<◌}
use native.Mathlib.Omega.{arith}
use lib.Dec.{leb}
use lib.ListN.{length, take}
use lib.Seq.{sets}
use borrow.Author.Tests.{le-leb, lt-leb}
use Rattle.lemmas.proofs.Cases.{at_true, at_false, both_branches}
use Rattle.lemmas.proofs.Tests.{and_intro, and_first, and_later}
use Rattle.std.specs.Prelude.{Option, Some, None}
use Rattle.script.specs.declared.script.Shape.{Shape}
use Rattle.script.specs.Numbers.{numbers_of, count_of}
use Rattle.script.specs.Script.{most_numbers, longest, Meant, script_of, meant_by, numbers_read, shape_of, steps_in, CodeSays, ParseSays}
use Rattle.script.specs.Script.Meant.{NoScript}
use Rattle.script.proofs.Counts.{bad_count, read_good, read_front}
use Rattle.script.proofs.Shapes.{most_numbers_lem}

module _ (bytes : List ℕ) where
  -- ---- what bytes mean: few enough, and nothing but numbers
  abbrev pub plain : Bool
  plain = leb (length bytes) longest && (numbers_of bytes).good

  pub meant_script : plain ≡ true → meant_by bytes ≡ script_of (numbers_of bytes).numbers
  unfolding meant_by
  meant_script e = sym (at_true NoScript e refl)

  pub meant_none : plain ≡ false → meant_by bytes ≡ NoScript
  unfolding meant_by
  meant_none e = sym (at_false (script_of (numbers_of bytes).numbers) e refl)

  no_script : script_of (numbers_of bytes).numbers ≡ NoScript → meant_by bytes ≡ NoScript
  unfolding meant_by
  no_script e = both_branches (λ (m : Meant). m ≡ NoScript) plain {x = script_of (numbers_of bytes).numbers} {y = NoScript} e refl

  -- ---- and which numbers are read
  pub some_read : leb (length bytes) longest ≡ true → numbers_read bytes ≡ (numbers_of bytes).numbers
  unfolding numbers_read
  some_read e = sym (at_true [] e refl)

  none_read : longest < length bytes → numbers_read bytes ≡ []
  unfolding numbers_read
  none_read h = sym (at_false (numbers_of bytes).numbers (lt-leb (length bytes) longest h) refl)

  -- ---- what the parser says
  module _ (numbers steps : List ℕ) where
    none : {numbers' : List ℕ} → meant_by bytes ≡ NoScript → numbers' ≡ sets numbers 0 (numbers_read bytes) → ParseSays bytes numbers steps numbers' steps None
    none e r = record {
      answer = ap shape_of (sym e);
      read = r;
      coded = ap (λ (m : Meant). sets steps 0 (steps_in m)) (sym e);
    }

    pub parse_long : longest < length bytes → ParseSays bytes numbers steps numbers steps None
    parse_long h = none (meant_none (and_first (numbers_of bytes).good (lt-leb (length bytes) longest h))) (ap (sets numbers 0) (sym (none_read h)))

    module _ (h : length bytes ≤ longest) {numbers' : List ℕ} (r : numbers' ≡ sets numbers 0 (numbers_of bytes).numbers) where
      short : leb (length bytes) longest ≡ true
      short = le-leb (length bytes) longest h

      was_read : numbers' ≡ sets numbers 0 (numbers_read bytes)
      was_read = r ∙ ap (sets numbers 0) (sym (some_read short))

      pub parse_bad : most_numbers ≤ length numbers → None ≡ count_of (length numbers) (numbers_of bytes) → ParseSays bytes numbers steps numbers' steps None
      parse_bad roomy e =
          none
          (⊎_elim
          (λ (g : (numbers_of bytes).good ≡ false). meant_none (and_later (leb (length bytes) longest) g))
          (λ (m : length numbers < length (numbers_of bytes).numbers). no_script (most_numbers_lem (numbers_of bytes).numbers (omega arith)))
          (bad_count (length numbers) (numbers_of bytes) e))
          was_read

      module _ {count : ℕ} (e : Some count ≡ count_of (length numbers) (numbers_of bytes)) where
        meant : script_of (take count numbers') ≡ meant_by bytes
        meant =
            ap script_of (read_front bytes numbers numbers' r e)
            ∙ sym (meant_script (and_intro (leb (length bytes) longest) (numbers_of bytes).good short (read_good bytes numbers numbers' r e)))

        pub parse_all : {steps' : List ℕ} {a : Option Shape} → CodeSays (take count numbers') steps steps' a → ParseSays bytes numbers steps numbers' steps' a
        parse_all p = record {
          answer = p.answer ∙ ap shape_of meant;
          read = was_read;
          coded = p.coded ∙ ap (λ (m : Meant). sets steps 0 (steps_in m)) meant;
        }
