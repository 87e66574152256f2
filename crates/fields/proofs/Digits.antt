-- A walk along the digits of a number. Assumes nothing.
use mathlib.Core.Path.{◌≡◌, refl, sym, ap, ◌∙◌}
use mathlib.Core.Bool.{true, false, not, ◌||◌}
use mathlib.Core.Logic.{⊎_elim}
use mathlib.Core.List.{List, [], ◌∷◌}
use mathlib.Core.Option.{none, some}
use Rattle.std.specs.Prelude.{Some, None}
use Prim.Native.Nat.{ℕ, ◌+◌, ◌^◌, ◌≤◌, ◌<◌}
use native.Mathlib.Omega.{arith}
use lib.Dec.{leb, eqb}
use lib.ListN.{length, get_or, drop, drop_of_length-le}
use borrow.Author.Tests.{le-leb, lt-leb}
use Rattle.lemmas.specs.Lists.{any_of}
use Rattle.lemmas.proofs.Any.{AnyLeft, any_passed, any_found, any_ended}
use Rattle.lemmas.proofs.Cases.{at_true, at_false}
use Rattle.lemmas.proofs.Tests.{or_intro_left, or_intro_right}
use Rattle.text.specs.Digits.{is_digit, longer, grown}
use Rattle.text.proofs.Reading.{strange_is, number_is}
use Rattle.format.specs.Fields.{no_digit, value_from, no_number, number_of}
use Rattle.fields.specs.Answers.{numbered}
use Rattle.fields.proofs.Finding.{here}

-- ---- what is answered
module _ (w : List ℕ) where
  answer_none : no_number w ≡ true → None ≡ numbered (number_of w)
  unfolding number_of numbered
  answer_none e = ap numbered (at_true (some (value_from 0 w)) e refl)

  answer_some : no_number w ≡ false → Some (value_from 0 w) ≡ numbered (number_of w)
  unfolding number_of numbered
  answer_some e = ap numbered (at_false none e refl)

  pub number_empty : eqb (length w) 0 ≡ true → None ≡ numbered (number_of w)
  unfolding no_number
  number_empty e = answer_none (or_intro_left (eqb (length w) 0) (any_of no_digit w || leb (2 ^ 64) (value_from 0 w)) e)

  wrong_byte : any_of no_digit w ≡ true → None ≡ numbered (number_of w)
  unfolding no_number
  wrong_byte e =
      answer_none
      (or_intro_right (eqb (length w) 0) (any_of no_digit w || leb (2 ^ 64) (value_from 0 w))
      (or_intro_left (any_of no_digit w) (leb (2 ^ 64) (value_from 0 w)) e))

  too_large : 2 ^ 64 ≤ value_from 0 w → None ≡ numbered (number_of w)
  unfolding no_number
  too_large h =
      answer_none
      (or_intro_right (eqb (length w) 0) (any_of no_digit w || leb (2 ^ 64) (value_from 0 w))
      (or_intro_right (any_of no_digit w) (leb (2 ^ 64) (value_from 0 w)) (le-leb (2 ^ 64) (value_from 0 w) h)))

  is_number : eqb (length w) 0 ≡ false → any_of no_digit w ≡ false → value_from 0 w < 2 ^ 64 → Some (value_from 0 w) ≡ numbered (number_of w)
  unfolding no_number
  is_number some_byte e h = answer_some (rw (some_byte, e) (lt-leb (2 ^ 64) (value_from 0 w) h))

-- ---- a value never falls
value_grows : (v : ℕ) (l : List ℕ) → v ≤ value_from v l
unfolding value_from
value_grows v [] = omega arith
value_grows v (b ∷ l) = let h = value_grows (longer v b) l in omega arith

-- ---- on the way: all bytes before place i were digits, of value v
pub record Digits (w : List ℕ) (v i : ℕ) : Type 0 where
  pub some_byte : eqb (length w) 0 ≡ false
  pub digits : AnyLeft no_digit w i
  pub value : value_from v (drop i w) ≡ value_from 0 w
  pub small : v < 2 ^ 64

pub digits_start : (w : List ℕ) → eqb (length w) 0 ≡ false → Digits w 0 0
digits_start w h = record { some_byte = h; digits = refl; value = refl; small = omega arith }

module _ (w : List ℕ) (v i : ℕ) (d : Digits w v i) where
  on : i < length w → value_from (longer v (get_or w i 0)) (drop (i + 1) w) ≡ value_from 0 w
  unfolding value_from
  on h = sym (ap (value_from v) (here w i h)) ∙ d.value

  pub digits_next : i < length w → {u : ℕ} → Some u ≡ grown v (get_or w i 0) → Digits w u (i + 1)
  unfolding no_digit
  digits_next h {u} e =
      let n = number_is v (get_or w i 0) e in
      record {
        some_byte = d.some_byte;
        digits = any_passed no_digit w i d.digits h (ap not n.0);
        value = ap (λ (x : ℕ). value_from x (drop (i + 1) w)) n.1 ∙ on h;
        small = n.2;
      }

  pub digits_strange : i < length w → None ≡ grown v (get_or w i 0) → None ≡ numbered (number_of w)
  unfolding no_digit
  digits_strange h e =
      ⊎_elim
      (λ (n : is_digit (get_or w i 0) ≡ false). wrong_byte w (sym (any_found no_digit w i d.digits h (ap not n))))
      (λ (l : 2 ^ 64 ≤ longer v (get_or w i 0)).
      too_large w (omega (arith, on h, value_grows (longer v (get_or w i 0)) (drop (i + 1) w))))
      (strange_is v (get_or w i 0) e)

  pub digits_end : length w ≤ i → Some v ≡ numbered (number_of w)
  unfolding value_from
  digits_end h =
      let value : v ≡ value_from 0 w = sym (ap (value_from v) (drop_of_length-le w h)) ∙ d.value in
      ap Some value ∙ is_number w d.some_byte (sym (any_ended no_digit w i d.digits h)) (omega (arith, d.small))
