-- What a choice between something and nothing says, once it is something. Assumes nothing.
use mathlib.Core.Path.{◌≡◌, refl}
use mathlib.Core.Bool.{Bool, true, false, cond}
use mathlib.Core.Option.{none, some, none-ne-some, some-injective}

module _ {A : Type 0} where
  pub some_if : (t : Bool) (x v : A) → cond t (some x) none ≡ some v → (t ≡ true) × (x ≡ v)
  some_if true x v e = (refl, some-injective x v e)
  some_if false x v e = absurd (none-ne-some v e)

  pub some_unless : (t : Bool) (x v : A) → cond t none (some x) ≡ some v → (t ≡ false) × (x ≡ v)
  some_unless true x v e = absurd (none-ne-some v e)
  some_unless false x v e = (refl, some-injective x v e)
