-- Rows and their numbers one after the other: the same graph. Assumes nothing.
use mathlib.Core.Path.{◌≡◌, refl, sym, ap, ap₂, ◌∙◌}
use mathlib.Core.List.{List, [], ◌∷◌, ◌++◌, append_assoc, append-nil}
use Prim.Native.Nat.{ℕ, zero, suc, ◌+◌, ◌*◌, ◌≤◌, ◌<◌}
use native.Mathlib.Nat.{add-zero}
use native.Mathlib.Omega.{arith}
use lib.ListN.{length, get_or, drop, drop_of_length-le, length-append}
use lib.Seq.{drop-cons, get_or-append-add}
use Rattle.nodes.specs.Words.{num}
use Rattle.waits.specs.declared.rows.Row.{Row}
use Rattle.waits.specs.Rows.{row_size, row_at, row_numbers, flat, rows_at, rows_of}

pub flat_length : (rs : List Row) → length (flat rs) ≡ length rs * row_size
unfolding flat row_numbers
flat_length [] = refl
flat_length (r ∷ rs) = omega (arith, flat_length rs)

pub flat_snoc : (rs : List Row) (r : Row) → flat (rs ++ r ∷ []) ≡ flat rs ++ row_numbers r
unfolding flat
flat_snoc [] r = append-nil (row_numbers r)
flat_snoc (q ∷ rs) r = ap (λ (l : List ℕ). row_numbers q ++ l) (flat_snoc rs r) ∙ sym (append_assoc (row_numbers q) (flat rs) (row_numbers r))

-- ---- rows that are taken from numbers give them back

-- the numbers of row k, and those after it
module _ (rows : List ℕ) (k : ℕ) (h : k * row_size + row_size ≤ length rows) where
  numbers_at : drop (k * row_size) rows ≡ row_numbers (row_at rows k) ++ drop (suc k * row_size) rows
  unfolding row_numbers row_at num
  numbers_at =
      let at = k * row_size in
      let one : suc at ≡ at + 1 = omega arith in
      let two : suc (at + 1) ≡ at + 2 = omega arith in
      let three : suc (at + 2) ≡ at + 3 = omega arith in
      let four : suc (at + 3) ≡ at + 4 = omega arith in
      let five : suc (at + 4) ≡ at + 5 = omega arith in
      let six : suc (at + 5) ≡ suc k * row_size = omega arith in
      next at one (omega arith)
      ∙ ap (λ (x : List ℕ). get_or rows at 0 ∷ x)
      (next (at + 1) two (omega arith)
      ∙ ap (λ (x : List ℕ). get_or rows (at + 1) 0 ∷ x)
      (next (at + 2) three (omega arith)
      ∙ ap (λ (x : List ℕ). get_or rows (at + 2) 0 ∷ x)
      (next (at + 3) four (omega arith)
      ∙ ap (λ (x : List ℕ). get_or rows (at + 3) 0 ∷ x)
      (next (at + 4) five (omega arith)
      ∙ ap (λ (x : List ℕ). get_or rows (at + 4) 0 ∷ x)
      (next (at + 5) six (omega arith))))))
    where
      next : (i : ℕ) {j : ℕ} → suc i ≡ j → i < length rows → drop i rows ≡ get_or rows i 0 ∷ drop j rows
      next i e l = drop-cons rows i 0 l ∙ ap (λ (x : ℕ). get_or rows i 0 ∷ drop x rows) e

flat_from : (rows : List ℕ) (m k : ℕ) → length rows ≡ (k + m) * row_size → flat (rows_at rows k m) ≡ drop (k * row_size) rows
unfolding flat rows_at
flat_from rows zero k e = sym (drop_of_length-le rows {i = k * row_size} (omega arith))
flat_from rows (suc m) k e =
    ap (λ (x : List ℕ). row_numbers (row_at rows k) ++ x) (flat_from rows m (suc k) (omega arith))
    ∙ sym (numbers_at rows k (omega arith))

pub flat_rows : (n : ℕ) (rows : List ℕ) → length rows ≡ n * row_size → flat (rows_of n rows) ≡ rows
unfolding rows_of
flat_rows n rows e = flat_from rows n 0 (let q : length rows ≡ (0 + n) * row_size = omega arith in q)

-- ---- and rows give numbers that they can be taken from again
row_back : (front : List ℕ) (r : Row) (rest : List ℕ) (k : ℕ) → length front ≡ k * row_size → row_at (front ++ (row_numbers r ++ rest)) k ≡ r
unfolding row_at row_numbers num
row_back front r rest k e = λ i. record {
  kind = (ap (λ (j : ℕ). get_or (front ++ (row_numbers r ++ rest)) j 0) (sym (add-zero (k * row_size))) ∙ at 0 refl) i;
  threshold = at 1 refl i;
  first = record { 0 = at 2 refl i };
  second = record { 0 = at 3 refl i };
  third = record { 0 = at 4 refl i };
  fourth = record { 0 = at 5 refl i };
}
  where
    at : (j : ℕ) → {x : ℕ} → get_or (row_numbers r ++ rest) j 0 ≡ x → get_or (front ++ (row_numbers r ++ rest)) (k * row_size + j) 0 ≡ x
    at j h = ap (λ (i : ℕ). get_or (front ++ (row_numbers r ++ rest)) (i + j) 0) (sym e) ∙ get_or-append-add front (row_numbers r ++ rest) j 0 ∙ h

row_length : (r : Row) → length (row_numbers r) ≡ row_size
unfolding row_numbers
row_length r = refl

rows_from_lem : (front : List ℕ) (rs : List Row) (k : ℕ) → length front ≡ k * row_size → rows_at (front ++ flat rs) k (length rs) ≡ rs
unfolding rows_at flat
rows_from_lem front [] k e = refl
rows_from_lem front (r ∷ rs) k e =
    ap₂ (λ (x : Row) (xs : List Row). x ∷ xs)
    (row_back front r (flat rs) k e)
    (ap (λ (l : List ℕ). rows_at l (suc k) (length rs)) (sym (append_assoc front (row_numbers r) (flat rs)))
    ∙ rows_from_lem (front ++ row_numbers r) rs (suc k) (omega (arith, length-append front (row_numbers r), row_length r)))

pub rows_flat : (rs : List Row) → rows_of (length rs) (flat rs) ≡ rs
unfolding rows_of
rows_flat rs = rows_from_lem [] rs 0 refl
