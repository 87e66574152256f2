-- A number that is written in decimal is read as that number. Assumes nothing.
use mathlib.Core.Path.{◌≡◌, sym, ap, ◌∙◌}
use mathlib.Core.Bool.{true, false}
use mathlib.Core.List.{List, [], ◌∷◌, ◌++◌, append_assoc, append-nil}
use mathlib.Core.Logic.{⊎_elim}
use Prim.Native.Nat.{ℕ, zero, suc, ◌+◌, ◌-◌, ◌*◌, ◌/◌, ◌%◌, ◌^◌, ◌<◌}
use native.Mathlib.Nat.{not-suc-le-zero}
use native.Mathlib.Omega.{arith}
use lib.Dec.{ltb}
use borrow.Author.Tests.{ltb-true, ltb-false, ne_eqb}
use Rattle.lemmas.proofs.Cases.{at_false, or_later}
use Rattle.lemmas.proofs.Tests.{true_or_false}
use Rattle.std.specs.Prelude.{Option, Some, None}
use Rattle.text.specs.Words.{digit as byte, decimal}
use Rattle.text.specs.Digits.{grown}
use Rattle.text.proofs.Reading.{digit_is, grown_is}
use Rattle.text.proofs.Decimal.{decimal_small, decimal_large}
use Rattle.script.specs.Numbers.{blank, so_far, said, after, numbers_from, numbers_of}

not_blank : (d : ℕ) → blank (byte d) ≡ false
unfolding blank
not_blank d =
    sym
    (or_later (ne_eqb (byte d) 32 (λ e. omega arith))
    (or_later (ne_eqb (byte d) 9 (λ e. omega arith))
    (or_later (ne_eqb (byte d) 10 (λ e. omega arith)) (sym (ne_eqb (byte d) 13 (λ e. omega arith))))))

-- one digit more
digit_read : (p : Option ℕ) (d v : ℕ) (l : List ℕ) → d < 10 → so_far p * 10 + d ≡ v → v < 2 ^ 64 → numbers_from p (byte d ∷ l) ≡ numbers_from (Some v) l
unfolding numbers_from
digit_read p d v l h e s =
    let back : byte d - 48 ≡ d = omega arith in
    let g : Some v ≡ grown (so_far p) (byte d) =
    ap Some (sym (ap (λ (x : ℕ). so_far p * 10 + x) back ∙ e)) ∙ grown_is (so_far p) (byte d) (digit_is (byte d) (omega arith) (omega arith)) (omega arith)
    in
    sym (at_false _ (not_blank d) (ap (λ (x : Option ℕ). after x (λ w. numbers_from (Some w) l)) g))

-- all digits of a number, from before it to within it; f bounds the recursion
digits_read : (f n : ℕ) (l : List ℕ) → n < f → n < 2 ^ 64 → numbers_from None (decimal n ++ l) ≡ numbers_from (Some n) l
digits_read zero n l h s = absurd (not-suc-le-zero h)
digits_read (suc f) n l h s =
    ⊎_elim
    (λ (e : ltb n 10 ≡ true). let t = ltb-true n 10 e in
    ap (λ (d : List ℕ). numbers_from None (d ++ l)) (decimal_small n t)
    ∙ digit_read None n n l t (omega arith) s)
    (λ (e : ltb n 10 ≡ false). let t = ltb-false n 10 e in
    ap (λ (d : List ℕ). numbers_from None (d ++ l)) (decimal_large n t)
    ∙ ap (numbers_from None) (append_assoc (decimal (n / 10)) (byte (n % 10) ∷ []) l)
    ∙ digits_read f (n / 10) (byte (n % 10) ∷ l) (omega arith) (omega arith)
    ∙ digit_read (Some (n / 10)) (n % 10) n l (omega arith) (omega arith) s)
    (true_or_false (ltb n 10))

-- before anything else
pub written_read : (n : ℕ) (l : List ℕ) → n < 2 ^ 64 → numbers_from None (decimal n ++ l) ≡ numbers_from (Some n) l
written_read n l h = digits_read (suc n) n l (omega arith) h

-- and alone
pub written_alone : (n : ℕ) → n < 2 ^ 64 → numbers_of (decimal n) ≡ said (n ∷ []) true
unfolding numbers_of numbers_from
written_alone n h = ap (numbers_from None) (sym (append-nil (decimal n))) ∙ written_read n [] h
