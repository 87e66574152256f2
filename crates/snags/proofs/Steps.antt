-- A walk along the steps, up to the first that is too large. Assumes nothing.
use mathlib.Core.Path.{◌≡◌, refl, sym, ap, ◌∙◌}
use mathlib.Core.Bool.{cond}
use mathlib.Core.List.{List, [], ◌∷◌}
use Prim.Native.Nat.{ℕ, suc, ◌+◌, ◌*◌, ◌/◌, ◌≤◌, ◌<◌}
use native.Mathlib.Numerals.{add-one}
use native.Mathlib.Omega.{arith}
use lib.Dec.{ltb}
use lib.ListN.{length, get_or, drop, length-drop}
use borrow.Author.Tests.{lt-ltb, le-ltb}
use Rattle.lemmas.proofs.Cases.{at_true, at_false}
use Rattle.script.proofs.Triples.{next_three}
use Rattle.std.specs.Prelude.{Result, Ok, Err}
use Rattle.snags.specs.declared.finding.Snag.{Snag}
use Rattle.snags.specs.declared.finding.Snag.TheVariants.{Kind, First, Second}
use Rattle.snags.specs.Snags.{step_snag}

few_none : (j : ℕ) (l : List ℕ) → length l ≤ 2 → step_snag j l ≡ Ok tt
unfolding step_snag
few_none j [] h = refl
few_none j (a ∷ []) h = refl
few_none j (a ∷ b ∷ []) h = refl
few_none j (a ∷ b ∷ c ∷ l) h = absurd (omega arith)

-- step j, and those behind it
module _ (l : List ℕ) (j : ℕ) (i : step_snag j (drop (3 * j) l) ≡ step_snag 0 l) where
  pub step_none : length l / 3 ≤ j → Ok tt ≡ step_snag 0 l
  step_none h = sym (few_none j (drop (3 * j) l) (omega (arith, length-drop (3 * j) l))) ∙ i

  module _ (h : j < length l / 3) where
    abbrev kind : ℕ
    kind = get_or l (3 * j) 0

    abbrev a : ℕ
    a = get_or l (3 * j + 1) 0

    abbrev b : ℕ
    b = get_or l (3 * j + 2) 0

    here : cond (ltb 65535 kind) (Err (Kind j)) (cond (ltb 16777215 a) (Err (First j)) (cond (ltb 16777215 b) (Err (Second j)) (step_snag (suc j) (drop (3 * (j + 1)) l)))) ≡ step_snag 0 l
    unfolding step_snag
    here = ap (step_snag j) (sym (next_three l j h)) ∙ i

    pub step_kind : 65535 < kind → Err (Kind j) ≡ step_snag 0 l
    step_kind p = at_true _ (lt-ltb 65535 kind p) refl ∙ here

    module _ (p : kind < 65536) where
      pub step_first : 16777215 < a → Err (First j) ≡ step_snag 0 l
      step_first q = at_false _ (le-ltb 65535 kind (omega arith)) (at_true _ (lt-ltb 16777215 a q) refl) ∙ here

      module _ (q : a < 16777216) where
        last : {r : Result Unit Snag} → r ≡ cond (ltb 16777215 b) (Err (Second j)) (step_snag (suc j) (drop (3 * (j + 1)) l)) → r ≡ step_snag 0 l
        last e = at_false _ (le-ltb 65535 kind (omega arith)) (at_false _ (le-ltb 16777215 a (omega arith)) e) ∙ here

        pub step_second : 16777215 < b → Err (Second j) ≡ step_snag 0 l
        step_second r = last (at_true _ (lt-ltb 16777215 b r) refl)

        pub step_next : b < 16777216 → step_snag (j + 1) (drop (3 * (j + 1)) l) ≡ step_snag 0 l
        step_next r = last (at_false _ (le-ltb 16777215 b (omega arith)) (ap (λ (k : ℕ). step_snag k (drop (3 * (j + 1)) l)) (add-one j)))
