-- The text of a set and of a file, one part after the other as the code writes them. Assumes nothing.
use mathlib.Core.Path.{◌≡◌, sym, ap, ap₂, ◌∙◌}
use mathlib.Core.List.{List, [], ◌∷◌, ◌++◌, map}
use Prim.Native.Nat.{ℕ, suc, ◌+◌, ◌-◌, ◌≤◌, ◌<◌}
use native.Mathlib.Numerals.{add-one}
use native.Mathlib.Omega.{arith}
use Rattle.nodes.specs.Sets.{members}
use Rattle.waits.specs.declared.rows.Row.{Row}
use Rattle.waits.specs.Rows.{row_at, rows_at, rows_of}
use Rattle.text.specs.Words.{decimal}
use Rattle.format.specs.Cut.{space, comma, cr, lf, behind, joined, ended}
use Rattle.format.specs.Written.{set_text, row_text, row_texts, header_text, file_of}

-- the members of a set, each behind a space
abbrev pub spaced : List ℕ → List ℕ
spaced l = behind space (map decimal l)

-- ---- a set's first member, and the next of those that are left
module _ (s : ℕ) where
  pub set_first : {k : ℕ} {l : List ℕ} → members s ≡ k ∷ l → comma ∷ set_text s ≡ (comma ∷ decimal k) ++ spaced l
  unfolding set_text joined
  set_first e = ap (λ (m : List ℕ). comma ∷ joined space (map decimal m)) e

  pub set_none : members s ≡ [] → comma ∷ set_text s ≡ comma ∷ []
  unfolding set_text joined
  set_none e = ap (λ (m : List ℕ). comma ∷ joined space (map decimal m)) e

pub member_next : {m l : List ℕ} {k : ℕ} → m ≡ k ∷ l → spaced m ≡ (space ∷ decimal k) ++ spaced l
unfolding behind
member_next e = ap spaced e

pub member_none : {m : List ℕ} → m ≡ [] → spaced m ≡ []
unfolding behind
member_none e = ap spaced e

-- ---- what is left of a file from row k on: the end of the line before it, and then the rows
abbrev pub rows_left : ℕ → List ℕ → ℕ → List ℕ
rows_left n rows k = cr ∷ lf ∷ ended (row_texts k (rows_at rows k (n - k)))

module _ (n : ℕ) (rows : List ℕ) where
  pub header_first : file_of n rows ≡ header_text ++ rows_left n rows 0
  unfolding file_of ended rows_of
  header_first =
      let e : n ≡ n - 0 = omega arith in
      ap (λ (m : ℕ). ended (header_text ∷ row_texts 0 (rows_at rows 0 m))) e

  module _ (k : ℕ) where
    pub row_next : k < n → {r : Row} → r ≡ row_at rows k → rows_left n rows k ≡ (cr ∷ lf ∷ row_text k r) ++ rows_left n rows (k + 1)
    unfolding ended row_texts rows_at
    row_next l f =
        let e : n - k ≡ suc (n - suc k) = omega arith in
        ap (λ (m : ℕ). cr ∷ lf ∷ ended (row_texts k (rows_at rows k m))) e
        ∙ sym (ap₂ (λ (x : Row) (j : ℕ). cr ∷ lf ∷ row_text k x ++ rows_left n rows j) f (add-one k))

    pub end_last : n ≤ k → rows_left n rows k ≡ cr ∷ lf ∷ []
    unfolding ended row_texts rows_at
    end_last l =
        let e : n - k ≡ 0 = omega arith in
        ap (λ (m : ℕ). cr ∷ lf ∷ ended (row_texts k (rows_at rows k m))) e
