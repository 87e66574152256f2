-- A reader on its way through a text: what is left says the rest. Assumes nothing.
use mathlib.Core.Path.{◌≡◌, refl, sym, ap, ap₂, ◌∙◌}
use mathlib.Core.Bool.{Bool, true, false, cond}
use mathlib.Core.List.{List, [], ◌∷◌, ◌++◌, append-nil}
use Prim.Native.Nat.{ℕ, ◌+◌, ◌≤◌, ◌<◌, zero-le}
use native.Mathlib.Nat.{add-zero}
use native.Mathlib.Numerals.{add-one}
use native.Mathlib.Omega.{arith}
use lib.Dec.{leb}
use lib.ListN.{length, get_or, drop, drop_of_length-le}
use lib.Seq.{drop-cons, sets, length-sets}
use borrow.Author.Tests.{le-leb, lt-leb}
use Rattle.lemmas.proofs.Cases.{at_true, at_false}
use Rattle.lemmas.proofs.Tests.{and_intro, and_first, and_later}
use Rattle.text.specs.Digits.{grown}
use Rattle.std.specs.Prelude.{Option, Some, None, is_some}
use Rattle.script.specs.Numbers.{blank, so_far, going, place_after, Said, said, ending, ended, EndSays, after, numbers_from, numbers_of, count_of, ReadSays}

-- ---- what is left of a text, one byte further: no more is said, or a number ends, or it goes on
abbrev further : Option ℕ → List ℕ → Option (Option ℕ) → Said
further p l None = said [] false
further p l (Some None) = ended p (numbers_from None l)
further p l (Some (Some v)) = numbers_from (Some v) l

further_is : (p : Option ℕ) (b : ℕ) (l : List ℕ) → numbers_from p (b ∷ l) ≡ further p l (place_after p b)
unfolding numbers_from place_after
further_is p b l = by (blank b) (grown (so_far p) b)
  where
    by : (t : Bool) (n : Option ℕ) → cond t (ended p (numbers_from None l)) (after n (λ v. numbers_from (Some v) l)) ≡ further p l (cond t (Some None) (going n))
    by true n = refl
    by false None = refl
    by false (Some v) = refl

module _ (p : Option ℕ) (l : List ℕ) (i : ℕ) where
  from_end : length l ≤ i → numbers_from p (drop i l) ≡ said (ending p ++ []) true
  unfolding numbers_from
  from_end h = ap (numbers_from p) (drop_of_length-le l h) ∙ ap (λ (x : List ℕ). said x true) (sym (append-nil (ending p)))

  from_next : i < length l → {n : Option (Option ℕ)} → n ≡ place_after p (get_or l i 0) → numbers_from p (drop i l) ≡ further p (drop (i + 1) l) n
  from_next h e =
      ap (numbers_from p) (drop-cons l i 0 h ∙ ap (λ (k : ℕ). get_or l i 0 ∷ drop k l) (sym (add-one i)))
      ∙ further_is p (get_or l i 0) (drop (i + 1) l)
      ∙ ap (further p (drop (i + 1) l)) (sym e)

-- ---- what was stored and counted, and what is left to say, against the whole
pub record Stored (lent : List ℕ) (whole : Said) (left : List ℕ) (count : ℕ) (rest : Said) : Type 0 where
  pub numbers : sets left count rest.numbers ≡ sets lent 0 whole.numbers
  pub counted : count + length rest.numbers ≡ length whole.numbers
  pub good : rest.good ≡ whole.good

module _ {lent : List ℕ} {whole : Said} {left : List ℕ} {count : ℕ} where
  -- the number under way is stored and counted
  stored_ended : (p : Option ℕ) (t : Said) {left' : List ℕ} {count' : ℕ} → Stored lent whole left count (ended p t)
      → EndSays p left left' count count' → Stored lent whole left' count' t
  stored_ended None t r e = record {
    numbers = ap₂ (λ (x : List ℕ) (k : ℕ). sets x k t.numbers) e.stored (e.counted ∙ add-zero count) ∙ r.numbers;
    counted = omega (arith, r.counted, e.counted);
    good = r.good;
  }
  stored_ended (Some v) t r e = record {
    numbers = ap₂ (λ (x : List ℕ) (k : ℕ). sets x k t.numbers) e.stored (e.counted ∙ add-one count) ∙ r.numbers;
    counted = omega (arith, r.counted, e.counted);
    good = r.good;
  }

  -- something strange, too many numbers, or all of them
  stored_strange : Stored lent whole left count (said [] false) → None ≡ count_of (length lent) whole
  unfolding count_of
  stored_strange r = at_false (Some (length whole.numbers)) (and_first (leb (length whole.numbers) (length lent)) (sym r.good)) refl

  stored_many : Stored lent whole left count (said [] true) → length lent < count → None ≡ count_of (length lent) whole
  unfolding count_of
  stored_many r h =
      at_false (Some (length whole.numbers))
      (and_later whole.good (lt-leb (length whole.numbers) (length lent) (omega (arith, r.counted))))
      refl

  stored_all : Stored lent whole left count (said [] true) → count ≤ length lent → Some count ≡ count_of (length lent) whole
  unfolding count_of
  stored_all r h =
      let e : count ≡ length whole.numbers = omega (arith, r.counted) in
      at_true None
      (and_intro whole.good (leb (length whole.numbers) (length lent)) (sym r.good) (le-leb (length whole.numbers) (length lent) (omega arith)))
      (ap Some e)

-- ---- a reader at byte i of a text
pub record Reading (l lent left : List ℕ) (count : ℕ) (p : Option ℕ) (i : ℕ) : Type 0 where
  pub stored : Stored lent (numbers_of l) left count (numbers_from p (drop i l))
  pub few : count ≤ i
  pub long : length left ≡ length lent

pub reading_start : (l lent : List ℕ) → Reading l lent lent 0 None 0
unfolding numbers_of
reading_start l lent = record { stored = record { numbers = refl; counted = omega arith; good = refl }; few = zero-le; long = refl }

at_most_one : (p : Option ℕ) → length (ending p) ≤ 1
at_most_one None = omega arith
at_most_one (Some v) = omega arith

module _ (l lent left : List ℕ) (count : ℕ) (p : Option ℕ) (i : ℕ) (r : Reading l lent left count p i) where
  as_long : {left' : List ℕ} {count' : ℕ} → EndSays p left left' count count' → length left' ≡ length lent
  as_long e = ap length e.stored ∙ length-sets left count (ending p) ∙ r.long

  module _ (h : i < length l) where
    pub reading_ended : (q : Option ℕ) → Some q ≡ place_after p (get_or l i 0) → is_some q ≡ false
        → {left' : List ℕ} {count' : ℕ} → EndSays p left left' count count' → Reading l lent left' count' q (i + 1)
    reading_ended None s n e = record {
      stored = stored_ended p (numbers_from None (drop (i + 1) l)) (rw (from_next p l i h s) at r.stored) e;
      few = omega (arith, r.few, e.counted, at_most_one p);
      long = as_long e;
    }
    reading_ended (Some v) s n e = absurd (cc)

    pub reading_grown : (q : Option ℕ) → Some q ≡ place_after p (get_or l i 0) → is_some q ≡ true → Reading l lent left count q (i + 1)
    reading_grown None s n = absurd (cc)
    reading_grown (Some v) s n = record { stored = rw (from_next p l i h s) at r.stored; few = omega (arith, r.few); long = r.long }

    pub reading_strange : None ≡ place_after p (get_or l i 0) → ReadSays l lent left None
    reading_strange e =
        let s : Stored lent (numbers_of l) left count (said [] false) = rw (from_next p l i h e) at r.stored in
        record { stored = s.numbers; counted = stored_strange s }

  at_end_lem : {left' : List ℕ} {count' : ℕ} → length l ≤ i → EndSays p left left' count count' → Stored lent (numbers_of l) left' count' (said [] true)
  at_end_lem h e = stored_ended p (said [] true) (rw (from_end p l i h) at r.stored) e

  pub reading_many : {left' : List ℕ} {count' : ℕ} → length l ≤ i → EndSays p left left' count count' → length left' < count' → ReadSays l lent left' None
  reading_many h e m = record { stored = (at_end_lem h e).numbers; counted = stored_many (at_end_lem h e) (omega (arith, as_long e)) }

  pub reading_all : {left' : List ℕ} {count' : ℕ} → length l ≤ i → EndSays p left left' count count' → count' ≤ length left' → ReadSays l lent left' (Some count')
  reading_all h e m = record { stored = (at_end_lem h e).numbers; counted = stored_all (at_end_lem h e) (omega (arith, as_long e)) }
