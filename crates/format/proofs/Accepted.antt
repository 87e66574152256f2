-- What the rows of an accepted graph are: every number and every set of them can be read again. Assumes nothing.
use mathlib.Core.Path.{◌≡◌, refl, ◌∙◌}
use mathlib.Core.Bool.{true, false}
use mathlib.Core.Logic.{⊎_elim}
use mathlib.Core.List.{List, [], ◌∷◌, Memᴰ}
use mathlib.Core.List.Memᴰ.{head as here}
use mathlib.Core.List.Memᴰ.{tail as there}
use Prim.Native.Nat.{ℕ, zero, suc, ◌+◌, ◌≤◌, ◌<◌}
use native.Mathlib.Omega.{arith}
use lib.Dec.{leb, eqb}
use borrow.Author.Tests.{ltb-false, leb-true, eqb-true, not-false}
use Rattle.std.specs.Prelude.{Ok}
use Rattle.lemmas.proofs.Cases.{at_false, of_true}
use Rattle.lemmas.proofs.Tests.{true_or_false, and_right}
use Rattle.nodes.specs.Sets.{In, size}
use Rattle.nodes.specs.Words.{places, num}
use Rattle.nodes.proofs.Operations.{in_below}
use Rattle.nodes.proofs.Inside.{inside_in, inside_lt}
use Rattle.nodes.proofs.Size.{size_le}
use Rattle.waits.specs.declared.rows.Row.{Row}
use Rattle.waits.specs.Rows.{row_at, sets_of, rows_at, rows_of}
use Rattle.waits.specs.Numbers.{strange_kind, wrong_threshold, check_of}
use Rattle.waits.proofs.Condition.{out_set}
use Rattle.waits.proofs.Table.{Fine, accepted_row, accepted_shaped}
use Rattle.waits.proofs.Lawful.{accepted_lawful}
use Rattle.format.proofs.Lines.{RowFits}

-- the rows of the nodes from k on can be read
abbrev pub RowsFit : ℕ → List Row → Type 0
RowsFit k [] = Unit {0}
RowsFit k (r ∷ rs) = RowFits k r × RowsFit (suc k) rs

small_size : (s : ℕ) → ((j : ℕ) → In j s → j < places) → size s ≤ places
small_size s h = size_le places s (inside_lt places s (inside_in s _ (λ j i. (in_below places j).1 (h j i))))

module _ (n k : ℕ) (r : Row) (ok : Fine n k r) where
  small_kind : r.kind ≤ 2
  unfolding strange_kind
  small_kind = ltb-false 2 r.kind ok.kind

  -- a threshold is 0, or at most the size of the first set
  small_threshold : r.threshold ≤ size (num r.first)
  unfolding wrong_threshold
  small_threshold =
      ⊎_elim
      (λ (e : eqb r.kind 1 ≡ true). leb-true _ _ (and_right (leb 1 r.threshold) _ (not-false _ (of_true _ e ok.threshold))))
      (λ (e : eqb r.kind 1 ≡ false). let z : r.threshold ≡ 0 = eqb-true _ _ (not-false _ (at_false _ e refl ∙ ok.threshold)) in omega arith)
      (true_or_false (eqb r.kind 1))

module _ (n : ℕ) (rows : List ℕ) (ok : check_of n rows ≡ Ok tt) where
  row_fits : (k : ℕ) → k < n → RowFits k (row_at rows k)
  row_fits k h =
      let few : n ≤ places = (accepted_shaped n rows ok).0 in
      let r = row_at rows k in
      let fine = accepted_row n rows ok k h in
      let sets : (s : ℕ) → Memᴰ s (sets_of r) → (j : ℕ) → In j s → j < places = λ s m j i. let l : j < n = (accepted_lawful n rows ok).closed k j h (out_set r s j m i) in omega arith in
      let first = sets (num r.first) (here refl) in
      let kind = small_kind n k r fine in
      let threshold = small_threshold n k r fine in
      let most = small_size (num r.first) first in (
        omega arith,
        (
          omega arith,
          (
            omega arith,
            (first, (sets (num r.second) (there (here refl)), (sets (num r.third) (there (there (here refl))), (sets (num r.fourth) (there (there (there (here refl)))), tt)))),
          ),
        ),
      )

  rows_fit : (m k : ℕ) → k + m ≡ n → RowsFit k (rows_at rows k m)
  unfolding rows_at
  rows_fit zero k e = tt
  rows_fit (suc m) k e = (row_fits k (omega arith), rows_fit m (suc k) (omega arith))

  pub accepted_fit : RowsFit 0 (rows_of n rows)
  unfolding rows_of
  accepted_fit = rows_fit n 0 (omega arith)
