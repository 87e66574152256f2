-- A field without its quotes, and texts that are the same. Assumes nothing.
use mathlib.Core.Path.{◌≡◌, refl, ap}
use mathlib.Core.Bool.{Bool, false, ◌&&◌}
use mathlib.Core.List.{List, [], ◌∷◌}
use Prim.Native.Nat.{ℕ, ◌-◌, ◌≤◌, ◌<◌}
use native.Mathlib.Omega.{arith}
use lib.Dec.{leb, eqb}
use lib.ListN.{length, get_or, take, drop}
use borrow.Author.Tests.{le-leb, lt-leb, eq-eqb, ne_eqb}
use Rattle.std.specs.Cmp.Lexicographic.{pointwise}
use Rattle.lemmas.proofs.Cases.{at_true, at_false}
use Rattle.lemmas.proofs.Tests.{and_intro, and_first, and_later}
use Rattle.format.specs.Cut.{quote}
use Rattle.format.specs.Fields.{quoted, bare, same}

-- ---- quotes
module _ (w : List ℕ) where
  unquoted : quoted w ≡ false → w ≡ bare w
  unfolding bare
  unquoted e = at_false (take (length w - 2) (drop 1 w)) e refl

  pub bare_short : length w < 2 → w ≡ bare w
  unfolding quoted
  bare_short h = unquoted (and_first _ (lt-leb 2 (length w) h))

  pub bare_unopened : (get_or w 0 0 ≡ quote → ⊥) → w ≡ bare w
  unfolding quoted
  bare_unopened n = unquoted (and_later (leb 2 (length w)) (and_first _ (ne_eqb (get_or w 0 0) quote n)))

  pub bare_unclosed : (get_or w (length w - 1) 0 ≡ quote → ⊥) → w ≡ bare w
  unfolding quoted
  bare_unclosed n = unquoted (and_later (leb 2 (length w)) (and_later (eqb (get_or w 0 0) quote) (ne_eqb (get_or w (length w - 1) 0) quote n)))

  pub bare_quoted : 2 ≤ length w → get_or w 0 0 ≡ quote → get_or w (length w - 1) 0 ≡ quote → take (length w - 1 - 1) (drop 1 w) ≡ bare w
  unfolding quoted bare
  bare_quoted h a b =
      at_true w
      (and_intro (leb 2 (length w)) _ (le-leb 2 (length w) h)
      (and_intro (eqb (get_or w 0 0) quote) _ (eq-eqb (get_or w 0 0) quote a) (eq-eqb (get_or w (length w - 1) 0) quote b)))
      (ap (λ (n : ℕ). take n (drop 1 w)) (let q : length w - 1 - 1 ≡ length w - 2 = omega arith in q))

-- ---- the same text
pub same_pointwise : (a b : List ℕ) → pointwise eqb a b ≡ same a b
unfolding same
same_pointwise [] [] = refl
same_pointwise [] (y ∷ b) = refl
same_pointwise (x ∷ a) [] = refl
same_pointwise (x ∷ a) (y ∷ b) = ap (λ (t : Bool). eqb x y && t) (same_pointwise a b)
