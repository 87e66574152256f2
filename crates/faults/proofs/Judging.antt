-- A number and a member, as they are judged. Assumes nothing.
use mathlib.Core.Path.{◌≡◌, refl, sym, ap, ap₂, ◌∙◌}
use mathlib.Core.Bool.{Bool, true, false, cond, not, ◌||◌}
use mathlib.Core.List.{List, [], ◌∷◌}
use mathlib.Core.Option.{none, some, none-ne-some}
use Prim.Native.Nat.{ℕ, ◌+◌, ◌^◌, ◌≤◌, ◌<◌}
use native.Mathlib.Omega.{arith}
use lib.Dec.{leb, ltb, eqb}
use lib.ListN.{length}
use borrow.Author.Tests.{eq-eqb, ne_eqb, le-leb, lt-leb, lt-ltb, le-ltb, leb-true}
use Rattle.std.specs.Prelude.{Ok, Err, Some, None}
use Rattle.std.specs.List.{list_any}
use Rattle.std.specs.Char.{is_ascii_digit}
use Rattle.lemmas.specs.Lists.{any_of}
use Rattle.lemmas.proofs.Cases.{at_true, at_false}
use Rattle.nodes.specs.Words.{places}
use Rattle.text.specs.Digits.{is_digit}
use Rattle.format.specs.Fields.{no_digit, value_from, no_number, number_of}
use Rattle.format.proofs.Choices.{some_unless}
use Rattle.fields.specs.Answers.{numbered}
use Rattle.fields.proofs.Told.{told_none, told_number}
use Rattle.faults.specs.declared.flaws.Flaw.{Flaw}
use Rattle.faults.specs.declared.flaws.Flaw.TheVariants.{Empty, NoDigit, PastBits, Spaces, Strange, NoPlace, Twice, Descends}
use Rattle.faults.specs.Flaws.{number_flaw, member_in}

-- ---- a byte, as std's test of a digit says it
pub strange_by : (w : List ℕ) → list_any (λ b. not (is_ascii_digit b)) w ≡ any_of no_digit w
unfolding no_digit is_digit
strange_by [] = refl
strange_by (b ∷ l) = ap (λ (t : Bool). no_digit b || t) (strange_by l)

-- ---- digits: what their reader's answer tells
none_when : (x : ℕ) (t : Bool) → cond t none (some x) ≡ none → t ≡ true
none_when x true e = refl
none_when x false e = absurd (none-ne-some x (sym e))

module _ (w : List ℕ) (some_byte : eqb (length w) 0 ≡ false) (digits : any_of no_digit w ≡ false) where
  by_value : no_number w ≡ leb (2 ^ 64) (value_from 0 w)
  unfolding no_number
  by_value = ap₂ (λ (a b : Bool). a || (b || leb (2 ^ 64) (value_from 0 w))) some_byte digits

  large_value : None ≡ numbered (number_of w) → leb (2 ^ 64) (value_from 0 w) ≡ true
  unfolding number_of
  large_value e = sym by_value ∙ none_when (value_from 0 w) (no_number w) (told_none (number_of w) e)

  small_value : {v : ℕ} → Some v ≡ numbered (number_of w) → (leb (2 ^ 64) (value_from 0 w) ≡ false) × (value_from 0 w ≡ v)
  unfolding number_of
  small_value {v} e = let q = some_unless (no_number w) (value_from 0 w) v (told_number (number_of w) e) in (sym by_value ∙ q.0, q.1)

-- ---- a number
module _ (w : List ℕ) where
  pub number_empty : eqb (length w) 0 ≡ true → Err Empty ≡ number_flaw w
  unfolding number_flaw
  number_empty e = at_true _ e refl

  module _ (some_byte : eqb (length w) 0 ≡ false) where
    pub number_strange : any_of no_digit w ≡ true → Err NoDigit ≡ number_flaw w
    unfolding number_flaw
    number_strange e = at_false _ some_byte (at_true _ e refl)

    module _ (digits : any_of no_digit w ≡ false) where
      pub number_past : None ≡ numbered (number_of w) → Err PastBits ≡ number_flaw w
      unfolding number_flaw
      number_past e =
          at_false _ some_byte (at_false _ digits (at_true _ (large_value w some_byte digits e) refl))

      pub number_fine : {v : ℕ} → Some v ≡ numbered (number_of w) → Ok tt ≡ number_flaw w
      unfolding number_flaw
      number_fine e =
          at_false _ some_byte (at_false _ digits (at_false _ (small_value w some_byte digits e).0 refl))

-- ---- a member
module _ (lowest : ℕ) (w : List ℕ) where
  pub member_empty : eqb (length w) 0 ≡ true → Err Spaces ≡ member_in lowest w
  unfolding member_in
  member_empty e = at_true _ e refl

  module _ (some_byte : eqb (length w) 0 ≡ false) where
    pub member_strange : any_of no_digit w ≡ true → Err Strange ≡ member_in lowest w
    unfolding member_in
    member_strange e = at_false _ some_byte (at_true _ e refl)

    module _ (digits : any_of no_digit w ≡ false) where
      no_place : leb places (value_from 0 w) ≡ true → Err NoPlace ≡ member_in lowest w
      unfolding member_in
      no_place e = at_false _ some_byte (at_false _ digits (at_true _ e refl))

      pub member_past : None ≡ numbered (number_of w) → Err NoPlace ≡ member_in lowest w
      member_past e =
          no_place (le-leb places (value_from 0 w) (omega (arith, leb-true (2 ^ 64) (value_from 0 w) (large_value w some_byte digits e))))

      module _ {m : ℕ} (e : Some m ≡ numbered (number_of w)) where
        value : value_from 0 w ≡ m
        value = (small_value w some_byte digits e).1

        pub member_high : places ≤ m → Err NoPlace ≡ member_in lowest w
        member_high h = no_place (le-leb places (value_from 0 w) (omega (arith, value)))

        module _ (placed : m < places) where
          has_place : leb places (value_from 0 w) ≡ false
          has_place = lt-leb places (value_from 0 w) (omega (arith, value))

          pub member_twice : m + 1 ≡ lowest → Err Twice ≡ member_in lowest w
          unfolding member_in
          member_twice h =
              at_false _ some_byte
              (at_false _ digits (at_false _ has_place (at_true _ (eq-eqb (value_from 0 w + 1) lowest (omega (arith, value))) refl)))

          module _ (other : m + 1 ≡ lowest → ⊥) where
            not_twice : eqb (value_from 0 w + 1) lowest ≡ false
            not_twice = ne_eqb (value_from 0 w + 1) lowest (λ q. other (ap (λ (x : ℕ). x + 1) (sym value) ∙ q))

            pub member_descends : m < lowest → Err Descends ≡ member_in lowest w
            unfolding member_in
            member_descends h =
                at_false _ some_byte
                (at_false _ digits (at_false _ has_place (at_false _ not_twice (at_true _ (lt-ltb (value_from 0 w) lowest (omega (arith, value))) refl))))

            pub member_is : lowest ≤ m → Ok m ≡ member_in lowest w
            unfolding member_in
            member_is h =
                at_false _ some_byte
                (at_false _ digits
                (at_false _ has_place (at_false _ not_twice (at_false _ (le-ltb (value_from 0 w) lowest (omega (arith, value))) (ap Ok (sym value))))))

-- ---- and back: a member that is one
pub record Member (lowest : ℕ) (w : List ℕ) (m : ℕ) : Type 0 where
  pub some_byte : eqb (length w) 0 ≡ false
  pub digits : any_of no_digit w ≡ false
  pub placed : leb places (value_from 0 w) ≡ false
  pub above : ltb (value_from 0 w) lowest ≡ false
  pub value : value_from 0 w ≡ m

pub member_back : (lowest : ℕ) (w : List ℕ) (m : ℕ) → member_in lowest w ≡ Ok m → Member lowest w m
unfolding member_in
member_back lowest w m = go (eqb (length w) 0) refl (any_of no_digit w) refl (leb places (value_from 0 w)) refl (eqb (value_from 0 w + 1) lowest) (ltb (value_from 0 w) lowest) refl
  where
    never : {A : Type 0} {f : Flaw} → Err f ≡ Ok m → A
    never e = absurd cc

    go : (a : Bool) → eqb (length w) 0 ≡ a → (b : Bool) → any_of no_digit w ≡ b → (c : Bool) → leb places (value_from 0 w) ≡ c → (d : Bool) → (e : Bool) → ltb (value_from 0 w) lowest ≡ e
        → cond a (Err Spaces) (cond b (Err Strange) (cond c (Err NoPlace) (cond d (Err Twice) (cond e (Err Descends) (Ok (value_from 0 w)))))) ≡ Ok m → Member lowest w m
    go true _ b _ c _ d e _ q = never q
    go false _ true _ c _ d e _ q = never q
    go false _ false _ true _ d e _ q = never q
    go false _ false _ false _ true e _ q = never q
    go false _ false _ false _ false true _ q = never q
    go false x false y false z false false v q = record { some_byte = x; digits = y; placed = z; above = v; value = cc }
