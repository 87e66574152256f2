-- A result that a branch or a match picked, against a definition by `cond`, `||`, `&&` or by cases. Assumes nothing.
use mathlib.Core.Path.{◌≡◌, sym, ◌∙◌, ap}
use mathlib.Core.Bool.{Bool, true, false, cond, ◌&&◌, ◌||◌}

module _ {A : Type 0} where
  -- the branch whose test was true
  pub at_true : {b : Bool} {x r : A} (y : A) → b ≡ true → r ≡ x → r ≡ cond b x y
  at_true {x = x} y e h = h ∙ ap (λ (t : Bool). cond t x y) (sym e)

  -- the branch whose test was false
  pub at_false : {b : Bool} {y r : A} (x : A) → b ≡ false → r ≡ y → r ≡ cond b x y
  at_false {y = y} x e h = h ∙ ap (λ (t : Bool). cond t x y) (sym e)

  -- and back: what a choice says once its test is known
  pub of_true : {b : Bool} {x r : A} (y : A) → b ≡ true → cond b x y ≡ r → x ≡ r
  of_true {x = x} y e h = ap (λ (t : Bool). cond t x y) (sym e) ∙ h

-- a fact that both branches have
pub both_branches : {A : Type 0} (P : A → Type 0) (b : Bool) {x y : A} → P x → P y → P (cond b x y)
both_branches P true p q = p
both_branches P false p q = q

-- a chain of tests of which one must be true, and of which all must be
pub or_here : {x : Bool} (y : Bool) → x ≡ true → true ≡ (x || y)
or_here y e = ap (λ (t : Bool). t || y) (sym e)

pub or_later : {x y r : Bool} → x ≡ false → r ≡ y → r ≡ (x || y)
or_later {y = y} e h = h ∙ ap (λ (t : Bool). t || y) (sym e)

pub and_not : {x : Bool} (y : Bool) → x ≡ false → false ≡ (x && y)
and_not y e = ap (λ (t : Bool). t && y) (sym e)

pub and_also : {x y r : Bool} → x ≡ true → r ≡ y → r ≡ (x && y)
and_also {y = y} e h = h ∙ ap (λ (t : Bool). t && y) (sym e)

pub and_rest : {x : Bool} (y : Bool) {r : Bool} → x ≡ true → (x && y) ≡ r → y ≡ r
and_rest y e h = ap (λ (t : Bool). t && y) (sym e) ∙ h

-- what a callee said of a flag, with the flag's value
pub flag : {p q v : Bool} → p ≡ q → p ≡ v → q ≡ v
flag e h = sym e ∙ h

-- the arm of a match: f goes by cases, a is the value, b its constructor
pub in_arm : {A B : Type 0} (f : A → B) {a b : A} {r : B} → a ≡ b → r ≡ f b → r ≡ f a
in_arm f e h = h ∙ ap f (sym e)

-- a promise that is an equation leaves one result
pub only_one : {A : Type 0} {x r s : A} → r ≡ x → s ≡ x → r ≡ s
only_one e f = e ∙ sym f
