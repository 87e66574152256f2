-- One field after the other: what is taken from a field that can be read, and what was there if fields are left. Assumes nothing.
use mathlib.Core.Path.{◌≡◌, refl, sym, ap, ◌∙◌}
use mathlib.Core.Bool.{true, false, false≢true}
use mathlib.Core.List.{List, [], ◌∷◌}
use mathlib.Core.Option.{Option, none, some, none-ne-some, some-injective}
use Prim.Native.Nat.{ℕ, ◌-◌}
use lib.Dec.{leb, eqb}
use lib.ListN.{length, get_or, take, drop}
use borrow.Author.Tests.{eqb-false, ne_eqb}
use Rattle.lemmas.specs.Lists.{any_of}
use Rattle.lemmas.proofs.Cases.{at_false}
use Rattle.lemmas.proofs.Tests.{and_first, and_later, or_left_false}
use Rattle.format.specs.Cut.{quote}
use Rattle.format.specs.Fields.{quoted, bare, Fields, taken, next, done}

-- a field with no quote means itself
not_quoted : (w : List ℕ) → any_of (eqb quote) w ≡ false → quoted w ≡ false
unfolding quoted
not_quoted [] e = refl
not_quoted (x ∷ w) e =
    and_later (leb 2 (length (x ∷ w)))
    (and_first (eqb (get_or (x ∷ w) (length (x ∷ w) - 1) 0) quote)
    (ne_eqb x quote (λ q. eqb-false quote x (or_left_false (eqb quote x) (any_of (eqb quote) w) e) (sym q))))

pub bare_same : (w : List ℕ) → any_of (eqb quote) w ≡ false → bare w ≡ w
unfolding bare
bare_same w e = sym (at_false (take (length w - 2) (drop 1 w)) (not_quoted w e) refl)

module _ (f : List ℕ → Option ℕ) where
  -- a field that can be read is taken
  pub next_read : (w : List ℕ) (ws : List (List ℕ)) (v : ℕ) → f (bare w) ≡ some v → next f (some (w ∷ ws)) ≡ taken (some v) ws
  unfolding next
  next_read w ws v e = ap (λ (o : Option ℕ). taken o ws) e

  pub next_taken : (w : List ℕ) (ws : List (List ℕ)) (v : ℕ) → any_of (eqb quote) w ≡ false → f w ≡ some v → next f (some (w ∷ ws)) ≡ taken (some v) ws
  next_taken w ws v q e = next_read w ws v (ap f (bare_same w q) ∙ e)

  -- and back
  taken_back : (o : Option ℕ) (xs ws : List (List ℕ)) → (taken o xs).rest ≡ some ws → (xs ≡ ws) × (o ≡ some (taken o xs).value)
  taken_back none xs ws e = absurd (none-ne-some ws e)
  taken_back (some v) xs ws e = (some-injective xs ws e, refl)

  pub next_back : (fs : Fields) (ws : List (List ℕ)) → (next f fs).rest ≡ some ws → (w : List ℕ) × (fs ≡ some (w ∷ ws)) × (f (bare w) ≡ some (next f fs).value)
  unfolding next
  next_back none ws e = absurd (none-ne-some ws e)
  next_back (some []) ws e = absurd (none-ne-some ws e)
  next_back (some (w ∷ xs)) ws e = let q = taken_back (f (bare w)) xs ws e in (w, ap (λ (r : List (List ℕ)). some (w ∷ r)) q.0, q.1)

pub done_back : (fs : Fields) → done fs ≡ true → fs ≡ some []
done_back none e = absurd (false≢true e)
done_back (some []) e = refl
done_back (some (w ∷ ws)) e = absurd (false≢true e)
