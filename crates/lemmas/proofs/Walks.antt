-- A walk along a list that may end early: what is computed of the list is what is computed of its rest from a place on.
-- Assumes nothing.
use mathlib.Core.Path.{◌≡◌, sym, ap, ◌∙◌}
use mathlib.Core.List.{List, [], ◌∷◌}
use Prim.Native.Nat.{ℕ, suc, ◌+◌, ◌≤◌, ◌<◌}
use native.Mathlib.Numerals.{add-one}
use lib.ListN.{length, get_or, drop, drop_of_length-le}
use lib.Seq.{drop-cons}

module _ {A : Type 0} (f : List ℕ → A) (l : List ℕ) where
  abbrev pub Left : ℕ → Type 0
  Left at = f l ≡ f (drop at l)

  module _ (at : ℕ) (left : Left at) where
    -- the number at that place, and those after it
    pub left_next : at < length l → f l ≡ f (get_or l at 0 ∷ drop (suc at) l)
    left_next h = left ∙ ap f (drop-cons l at 0 h)

    -- it decides nothing
    pub left_passed : at < length l → f (get_or l at 0 ∷ drop (suc at) l) ≡ f (drop (suc at) l) → Left (at + 1)
    left_passed h e = rw (add-one at) (left_next h ∙ e)

    -- there is none
    pub left_ended : length l ≤ at → f [] ≡ f l
    left_ended h = sym (left ∙ ap f (drop_of_length-le l h))
