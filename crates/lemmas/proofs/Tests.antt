-- Boolean tests: telling true from false, and what `&&` and `||` say of their parts. Assumes nothing.
use mathlib.Core.Path.{◌≡◌, refl, sym, ap, ◌∙◌}
use mathlib.Core.Bool.{Bool, true, false, cond, ◌&&◌, ◌||◌, true≢false, false≢true}
use mathlib.Core.Logic.{◌⊎◌, inl, inr}

pub not_both : {b : Bool} → b ≡ true → b ≡ false → ⊥
not_both e f = true≢false (sym e ∙ f)

pub not_true_false : (b : Bool) → (b ≡ true → ⊥) → b ≡ false
not_true_false true h = absurd (h refl)
not_true_false false h = refl

pub true_or_false : (b : Bool) → (b ≡ true) ⊎ (b ≡ false)
true_or_false true = inl refl
true_or_false false = inr refl

-- two tests that say the same
pub same_test : (x y : Bool) → (x ≡ true → y ≡ true) → (y ≡ true → x ≡ true) → x ≡ y
same_test true y f g = sym (f refl)
same_test false true f g = g refl
same_test false false f g = refl

-- ---- and
pub and_intro : (x y : Bool) → x ≡ true → y ≡ true → (x && y) ≡ true
and_intro true y e f = f
and_intro false y e f = e

pub and_left : (x y : Bool) → (x && y) ≡ true → x ≡ true
and_left true y e = refl
and_left false y e = e

pub and_right : (x y : Bool) → (x && y) ≡ true → y ≡ true
and_right true y e = e
and_right false y e = absurd (false≢true e)

pub and_first : {x : Bool} (y : Bool) → x ≡ false → (x && y) ≡ false
and_first {x} y e = ap (λ (t : Bool). t && y) e

pub and_later : (x : Bool) {y : Bool} → y ≡ false → (x && y) ≡ false
and_later true e = e
and_later false e = refl

-- ---- or
pub or_left_false : (x y : Bool) → (x || y) ≡ false → x ≡ false
or_left_false true y e = e
or_left_false false y e = refl

pub or_right_false : (x y : Bool) → (x || y) ≡ false → y ≡ false
or_right_false true y e = absurd (true≢false e)
or_right_false false y e = e

pub or_cases : (x y : Bool) → (x || y) ≡ true → (x ≡ true) ⊎ (y ≡ true)
or_cases true y e = inl refl
or_cases false y e = inr e

pub or_intro_left : (x y : Bool) → x ≡ true → (x || y) ≡ true
or_intro_left true y e = refl
or_intro_left false y e = absurd (false≢true e)

pub or_intro_right : (x y : Bool) → y ≡ true → (x || y) ≡ true
or_intro_right true y e = refl
or_intro_right false y e = e

-- ---- a choice
pub cond_mono : (b : Bool) {x y x' y' : Bool} → (x ≡ true → x' ≡ true) → (y ≡ true → y' ≡ true) → cond b x y ≡ true → cond b x' y' ≡ true
cond_mono true f g e = f e
cond_mono false f g e = g e
