-- The line that is answered is the first that breaks the rules: those before it are a file by the grammar, and with it they aren't.
-- Assumes nothing.
use mathlib.Core.Path.{◌≡◌, refl, sym, ap, ap₂, ◌∙◌}
use mathlib.Core.Bool.{Bool, true, false, cond}
use mathlib.Core.Logic.{◌⊎◌, ⊎_elim, inl, inr}
use mathlib.Core.List.{List, [], ◌∷◌}
use mathlib.Core.Option.{Option, none, some, none-ne-some}
use Prim.Native.Nat.{ℕ, suc, ◌+◌, ◌-◌}
use native.Mathlib.Omega.{arith}
use lib.ListN.{take}
use Rattle.waits.specs.declared.rows.Row.{Row}
use Rattle.format.specs.Cut.{lines_of, ended}
use Rattle.format.specs.Files.{is_header, row_of, Meant, row_then, rows_from, under_header, meant_by}
use Rattle.format.specs.Files.Meant.{Broken, Rows}
use Rattle.format.specs.Grammar.{FirstBroken}
use Rattle.format.proofs.Back.{row_then_lem}
use Rattle.format.proofs.Ending.{first_lines}
use Rattle.format.proofs.ByGrammar.{by_grammar}

-- ---- the rows
then_broken : (line : ℕ) (o : Option Row) (m : Meant) (b : ℕ) → row_then line o m ≡ Broken b
    → ((o ≡ none) × (b ≡ line)) ⊎ ((r : Row) × (o ≡ some r) × (m ≡ Broken b))
then_broken line none m b e = inl (refl, cc)
then_broken line (some r) (Broken later) b e = inr (r, refl, e)
then_broken line (some r) (Rows rs) b e = absurd (let z : ◌≡◌ {A = ℕ} 0 1 = cc in omega arith)

-- as many lines as stand before it are rows, and one more aren't
abbrev Before : ℕ → List (List ℕ) → ℕ → Type 0
Before k ls n = ((rs : List Row) × (rows_from k (take n ls) ≡ Rows rs)) × ((rs : List Row) → rows_from k (take (suc n) ls) ≡ Rows rs → ⊥)

rows_broken : (k : ℕ) (ls : List (List ℕ)) (line : ℕ) → rows_from k ls ≡ Broken line → (n : ℕ) × (line ≡ n + k + 2) × Before k ls n
unfolding rows_from
rows_broken k [] line e = absurd (let z : ◌≡◌ {A = ℕ} 0 1 = cc in omega arith)
rows_broken k (l ∷ ls) line e =
    let ih = rows_broken (suc k) ls line in
    ⊎_elim
    (λ (q : (row_of k l ≡ none) × (line ≡ k + 2)). (
      0,
      omega (arith, q.1),
      (
        ([], refl),
        λ rs f.
            let p = row_then_lem (k + 2) (row_of k l) (Rows []) rs f in
            none-ne-some p.0 (sym q.0 ∙ p.2),
      ),
    ))
    (λ (q : (r : Row) × (row_of k l ≡ some r) × (rows_from (suc k) ls ≡ Broken line)).
    let p = ih q.2 in
    let n = p.0 in
    let at = p.1 in (
      suc n,
      omega arith,
      (
        (q.0 ∷ p.2.0.0, ap₂ (row_then (k + 2)) q.1 p.2.0.1),
        λ rs f. let s = row_then_lem (k + 2) (row_of k l) (rows_from (suc k) (take (suc n) ls)) rs f in p.2.1 s.1 s.3,
      ),
    ))
    (then_broken (k + 2) (row_of k l) (rows_from (suc k) ls) line e)

-- ---- the lines
abbrev First : List (List ℕ) → ℕ → Type 0
First ls line =
    ((line ≡ 1) ⊎ ((rs : List Row) × (under_header (take (line - 1) ls) ≡ Rows rs))) × ((rs : List Row) → under_header (take line ls) ≡ Rows rs → ⊥)

lines_broken : (ls : List (List ℕ)) (line : ℕ) → under_header ls ≡ Broken line → First ls line
lines_broken [] line e =
    let one : line ≡ 1 = cc in
    rw one (inl refl, λ rs f. let z : ◌≡◌ {A = ℕ} 0 1 = cc in omega arith)
lines_broken (l ∷ ls) line e = go (is_header l) refl e
  where
    under : {t : Bool} (ms : List (List ℕ)) → is_header l ≡ t → under_header (l ∷ ms) ≡ cond t (rows_from 0 ms) (Broken 1)
    under ms h = ap (λ (t : Bool). cond t (rows_from 0 ms) (Broken 1)) h

    go : (t : Bool) → is_header l ≡ t → cond t (rows_from 0 ls) (Broken 1) ≡ Broken line → First (l ∷ ls) line
    go true h e =
        let q = rows_broken 0 ls line e in
        let n = q.0 in
        let at : line ≡ suc (suc n) = omega (arith, q.1) in
        let before-it : line - 1 ≡ suc n = omega (arith, q.1) in
        let some-lines : ℕ → Meant = λ m. under_header (take m (l ∷ ls)) in (
          inr (q.2.0.0, ap some-lines before-it ∙ under (take n ls) h ∙ q.2.0.1),
          λ rs f. q.2.1 rs (sym (ap some-lines at ∙ under (take (suc n) ls) h) ∙ f),
        )
    go false h e =
        let one : line ≡ 1 = cc in
        rw one (inl refl, λ rs f. let q : Broken 1 ≡ Rows rs = sym (under [] h) ∙ f in let z : ◌≡◌ {A = ℕ} 0 1 = cc in omega arith)

-- Theorem: so with the file.
pub first_broken : FirstBroken
unfolding meant_by
first_broken bytes line e =
    let ls = lines_of bytes in
    let q = lines_broken ls line e in
    let same : (n : ℕ) → meant_by (ended (take n ls)) ≡ under_header (take n ls) = λ n. ap under_header (first_lines n bytes) in (
      ⊎_elim
          (λ (h : line ≡ 1). inl h)
          (λ (h : (rs : List Row) × (under_header (take (line - 1) ls) ≡ Rows rs)). inr (h.0, (by_grammar (ended (take (line - 1) ls)) h.0).0 (same (line - 1) ∙ h.1)))
          q.0,
      λ rs f. q.1 rs (sym (same line) ∙ (by_grammar (ended (take line ls)) rs).1 f),
    )
