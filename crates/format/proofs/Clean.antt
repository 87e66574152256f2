-- The values of a header and of a row are TEXTDATA, so nothing in them ends a field or a line. Assumes nothing.
use mathlib.Core.Path.{◌≡◌, refl, ap, ap₂, ◌∙◌, sym}
use mathlib.Core.Bool.{Bool, false, not, ◌||◌}
use mathlib.Core.List.{List, [], ◌∷◌}
use mathlib.Core.Option.{some}
use Prim.Native.Nat.{ℕ, suc}
use native.Mathlib.Omega.{arith}
use lib.Dec.{leb, eqb}
use borrow.Author.Tests.{le-leb, ne_eqb}
use Rattle.lemmas.specs.Lists.{any_of}
use Rattle.lemmas.proofs.Tests.{and_intro}
use Rattle.lemmas.proofs.Any.{any_weaker}
use Rattle.waits.specs.declared.rows.Row.{Row}
use Rattle.format.specs.Cut.{space, quote, comma, pieces}
use Rattle.format.specs.Fields.{no_digit, number_of, numbers_of, members_of, set_in}
use Rattle.format.specs.Files.{headings}
use Rattle.format.specs.Grammar.{text_data, AllOf, RowSays, RowsSay}
use Rattle.format.proofs.Open.{open_format}
use Rattle.format.proofs.Joining.{Free, joined_pieces, joined_free}
use Rattle.format.proofs.Numbers.{digit_range, number_digits}
use Rattle.format.proofs.SetTexts.{in_front_lem, these}

abbrev pub no_text : ℕ → Bool
no_text b = not (text_data b)

-- values of a record that has two or more
abbrev pub Clean : List (List ℕ) → Type 0
Clean [] = ⊥
Clean (v ∷ []) = ⊥
Clean (v ∷ u ∷ vs) = Free no_text (v ∷ u ∷ vs)

abbrev pub AllClean : List (List (List ℕ)) → Type 0
AllClean [] = Unit {0}
AllClean (vs ∷ records) = Clean vs × AllClean records

-- ---- numbers
digit_text : (b : ℕ) → no_digit b ≡ false → no_text b ≡ false
unfolding text_data
digit_text b e =
    let r = digit_range b e in
    let no-quote : eqb b quote ≡ false = ne_eqb b quote (λ q. omega arith) in
    let no-comma : eqb b comma ≡ false = ne_eqb b comma (λ q. omega arith) in
    ap not
    (and_intro _ _
    (and_intro (leb 32 b) (leb b 126) (le-leb 32 b (omega arith)) (le-leb b 126 (omega arith))) (ap not (ap₂ ◌||◌ no-quote no-comma)))

number_text : (w : List ℕ) (v : ℕ) → number_of w ≡ some v → AllOf text_data w
number_text w v e = any_weaker no_digit no_text w digit_text (number_digits w v e)

-- ---- sets
numbers_text : (ws : List (List ℕ)) (ms : List ℕ) → numbers_of ws ≡ some ms → Free no_text ws
unfolding numbers_of
numbers_text [] ms e = tt
numbers_text (w ∷ ws) ms e = let q = in_front_lem (number_of w) (numbers_of ws) ms e in (number_text w q.0 q.2, numbers_text ws q.1 q.3)

members_text : (w ms : List ℕ) → members_of w ≡ some ms → AllOf text_data w
unfolding members_of text_data
members_text [] ms e = refl
members_text (b ∷ w) ms e =
    ap (any_of no_text) (sym (joined_pieces space (b ∷ w)))
    ∙ joined_free no_text space (pieces space (b ∷ w)) refl (numbers_text (pieces space (b ∷ w)) ms e)

set_text_lem : (w : List ℕ) (s : ℕ) → set_in w ≡ some s → AllOf text_data w
unfolding set_in
set_text_lem w s e = let q = these (members_of w) s e in members_text w q.0 q.1

-- ---- the header, a row and the rows
pub headings_clean : Clean headings
unfolding open_format text_data
headings_clean = (refl, (refl, (refl, (refl, (refl, (refl, (refl, tt)))))))

row_clean : (k : ℕ) (values : List (List ℕ)) (r : Row) → RowSays k values r → Clean values
row_clean k values r s =
    rw s.seven (
      number_text s.node k s.is_node,
      (
        number_text s.kind _ s.is_kind,
        (
          number_text s.threshold _ s.is_threshold,
          (set_text_lem s.set1 _ s.is_first, (set_text_lem s.set2 _ s.is_second, (set_text_lem s.set3 _ s.is_third, (set_text_lem s.set4 _ s.is_fourth, tt)))),
        ),
      ),
    )

pub rows_clean : (k : ℕ) (records : List (List (List ℕ))) (rs : List Row) → RowsSay k records rs → AllClean records
rows_clean k [] rs s = tt
rows_clean k (vs ∷ records) [] s = absurd s
rows_clean k (vs ∷ records) (r ∷ rs) s = (row_clean k vs r s.0, rows_clean (suc k) records rs s.1)
