-- A header or a row that is written is read as itself, and one that was read, without quotes and zeros in front, is written back.
-- Assumes nothing.
use mathlib.Core.Path.{◌≡◌, refl, sym, ap, ap₂, ◌∙◌, subst}
use mathlib.Core.Bool.{true, false, cond, ◌&&◌, false≢true}
use mathlib.Core.List.{List, [], ◌∷◌, map, Memᴰ}
use mathlib.Core.Option.{Option, none, some, some-injective}
use Prim.Native.Nat.{ℕ, suc}
use lib.Dec.{eqb}
use lib.ListN.{get_or}
use borrow.Author.Tests.{eqb-true, eq-eqb}
use Rattle.lemmas.specs.Lists.{any_of}
use Rattle.lemmas.proofs.Cases.{at_true}
use Rattle.lemmas.proofs.Tests.{and_left, and_right}
use Rattle.nodes.specs.Words.{num, as_set}
use Rattle.nodes.proofs.Words.{num_as, as_num}
use Rattle.waits.specs.declared.rows.Row.{Row}
use Rattle.waits.specs.Rows.{sets_of}
use Rattle.text.specs.Words.{decimal}
use Rattle.text.specs.Digits.{is_digit}
use Rattle.format.specs.Cut.{space, quote, comma, cr, pieces, joined}
use Rattle.format.specs.Fields.{bare, no_digit, same, word_in, Fields, next, done}
use Rattle.format.specs.Files.{fields, headings, words, is_header, row_of}
use Rattle.format.specs.Written.{row_text, row_texts, header_text}
use Rattle.format.proofs.Open.{open_format}
use Rattle.format.proofs.Choices.{some_if}
use Rattle.format.proofs.Joining.{Free, joined_pieces, pieces_joined, joined_free, free_joined}
use Rattle.format.proofs.SetTexts.{Zeroless}
use Rattle.format.proofs.Taking.{bare_same, next_back, done_back}
use Rattle.format.proofs.Forms.{Form, AllFit, after, values, texts, texts_free, texts_zeroless, texts_read, texts_back}
use Rattle.format.proofs.Forms.Form.{Number, Members}

-- no quote is in the fields of a line that has none
fields_free : (line : List ℕ) → any_of (eqb quote) line ≡ false → Free (eqb quote) (pieces comma line)
fields_free line e = free_joined (eqb quote) comma (pieces comma line) (ap (any_of (eqb quote)) (joined_pieces comma line) ∙ e)

-- ---- the header
-- it has no CR
pub header_free : any_of (eqb cr) header_text ≡ false
unfolding open_format
header_free = refl

pub header_read : is_header header_text ≡ true
unfolding open_format
header_read = refl

same_back : (l m : List ℕ) → same l m ≡ true → l ≡ m
unfolding same
same_back [] [] e = refl
same_back [] (y ∷ m) e = absurd (false≢true e)
same_back (x ∷ l) [] e = absurd (false≢true e)
same_back (x ∷ l) (y ∷ m) e =
    ap₂ (λ (z : ℕ) (r : List ℕ). z ∷ r) (eqb-true x y (and_left (eqb x y) (same l m) e)) (same_back l m (and_right (eqb x y) (same l m) e))

word_back : (word w : List ℕ) (v : ℕ) → word_in word w ≡ some v → w ≡ word
unfolding word_in
word_back word w v e = same_back w word (some_if (same w word) 0 v e).0

pub words_back : (ws : List (List ℕ)) (fs : Fields) → words ws fs ≡ some [] → (ps : List (List ℕ)) × (fs ≡ some ps) × (map bare ps ≡ ws)
words_back [] fs e = ([], e, refl)
words_back (w ∷ ws) fs e =
    let q = words_back ws (next (word_in w) fs).rest e in
    let r = next_back (word_in w) fs q.0 q.1 in
    (r.0 ∷ q.0, r.1, ap₂ (λ (x : List ℕ) (xs : List (List ℕ)). x ∷ xs) (word_back w (bare r.0) _ r.2) q.2)

bare_all : (ps : List (List ℕ)) → Free (eqb quote) ps → map bare ps ≡ ps
bare_all [] f = refl
bare_all (p ∷ ps) f = ap₂ (λ (x : List ℕ) (xs : List (List ℕ)). x ∷ xs) (bare_same p f.0) (bare_all ps f.1)

-- Law: a header without quotes is the one that is written.
pub header_back : (line : List ℕ) → is_header line ≡ true → any_of (eqb quote) line ≡ false → line ≡ header_text
unfolding is_header header_text
header_back line e f =
    let q = words_back headings (fields line) (done_back _ e) in
    let all : pieces comma line ≡ headings = sym (bare_all (pieces comma line) (fields_free line f)) ∙ ap (map bare) (some-injective (pieces comma line) q.0 q.1) ∙ q.2 in
    sym (joined_pieces comma line) ∙ ap (joined comma) all

-- ---- a row: its forms and its values
abbrev pub row_forms : List Form
row_forms = Number ∷ Number ∷ Number ∷ Members ∷ Members ∷ Members ∷ Members ∷ []

abbrev pub row_values : ℕ → Row → List ℕ
row_values k r = k ∷ r.kind ∷ r.threshold ∷ sets_of r

abbrev pub RowFits : ℕ → Row → Type 0
RowFits k r = AllFit row_forms (row_values k r)

-- the row of node k, from what its fields said
abbrev row_with : ℕ → Fields → List ℕ → Option Row
row_with k rest vs =
    cond (done rest && eqb (get_or vs 0 0) k)
    (some
    (record {
      kind = get_or vs 1 0;
      threshold = get_or vs 2 0;
      first = as_set (get_or vs 3 0);
      second = as_set (get_or vs 4 0);
      third = as_set (get_or vs 5 0);
      fourth = as_set (get_or vs 6 0);
    }))
    none

row_with_lem : (k : ℕ) (line : List ℕ) → row_of k line ≡ row_with k (after row_forms (fields line)) (values row_forms (fields line))
unfolding row_of
row_with_lem k line = refl

-- its text has digits, spaces and commas only
row_free : (c k : ℕ) (r : Row) → no_digit c ≡ true → eqb c space ≡ false → eqb c comma ≡ false → any_of (eqb c) (row_text k r) ≡ false
unfolding row_text
row_free c k r e f g = joined_free (eqb c) comma _ g (texts_free c row_forms (row_values k r) e f)

pub rows_free : (c k : ℕ) (rs : List Row) → no_digit c ≡ true → eqb c space ≡ false → eqb c comma ≡ false → Free (eqb c) (row_texts k rs)
unfolding row_texts
rows_free c k [] e f g = tt
rows_free c k (r ∷ rs) e f g = (row_free c k r e f g, rows_free c (suc k) rs e f g)

row_pieces : (k : ℕ) (r : Row) → pieces comma (row_text k r) ≡ texts row_forms (row_values k r)
unfolding row_text no_digit is_digit
row_pieces k r = pieces_joined comma (decimal k) _ (texts_free comma row_forms (row_values k r) refl refl)

pub row_zeroless : (k : ℕ) (r : Row) (field : List ℕ) → Memᴰ field (pieces comma (row_text k r)) → Zeroless field
row_zeroless k r field m = texts_zeroless row_forms (row_values k r) field (rw (row_pieces k r) at m)

-- the row that the code's sets make, and the values of one that was made of numbers
remade : (r : Row) → r ≡ record {
  kind = r.kind;
  threshold = r.threshold;
  first = as_set (num r.first);
  second = as_set (num r.second);
  third = as_set (num r.third);
  fourth = as_set (num r.fourth);
}
remade r = λ i. record {
  kind = r.kind;
  threshold = r.threshold;
  first = sym (as_num r.first) i;
  second = sym (as_num r.second) i;
  third = sym (as_num r.third) i;
  fourth = sym (as_num r.fourth) i;
}

made_values : (k kind threshold a b c d : ℕ)
    → k ∷ kind ∷ threshold ∷ a ∷ b ∷ c ∷ d ∷ []
    ≡ row_values k (record { kind = kind; threshold = threshold; first = as_set a; second = as_set b; third = as_set c; fourth = as_set d })
made_values k kind threshold a b c d = λ i. k ∷ kind ∷ threshold ∷ sym (num_as a) i ∷ sym (num_as b) i ∷ sym (num_as c) i ∷ sym (num_as d) i ∷ []

values_text : (k : ℕ) (r : Row) → joined comma (texts row_forms (row_values k r)) ≡ row_text k r
unfolding row_text
values_text k r = refl

-- a line whose fields say a row, with none left, is that row
pub row_made : (k : ℕ) (line : List ℕ) (r : Row) → after row_forms (fields line) ≡ some [] → values row_forms (fields line) ≡ row_values k r → row_of k line ≡ some r
row_made k line r e f = row_with_lem k line ∙ ap₂ (row_with k) e f ∙ sym (at_true none (eq-eqb k k refl) (ap some (remade r)))

-- and back
pub row_parts : (k : ℕ) (line : List ℕ) (r : Row) → row_of k line ≡ some r
    → (after row_forms (fields line) ≡ some []) × (values row_forms (fields line) ≡ row_values k r)
row_parts k line r e =
    let rest = after row_forms (fields line) in
    let vs = values row_forms (fields line) in
    let c = some_if (done rest && eqb (get_or vs 0 0) k) _ r (sym (row_with_lem k line) ∙ e) in
    let node : get_or vs 0 0 ≡ k = eqb-true (get_or vs 0 0) k (and_right (done rest) (eqb (get_or vs 0 0) k) c.0) in
    (done_back rest (and_left (done rest) (eqb (get_or vs 0 0) k) c.0), made_values _ _ _ _ _ _ _ ∙ ap₂ row_values node c.1)

-- Law: a row that is written is read as itself.
pub row_read : (k : ℕ) (r : Row) → RowFits k r → row_of k (row_text k r) ≡ some r
row_read k r h =
    let q = texts_read row_forms (row_values k r) h in
    let ws = row_pieces k r in
    row_made k (row_text k r) r (ap (λ (x : List (List ℕ)). after row_forms (some x)) ws ∙ q.0) (ap (λ (x : List (List ℕ)). values row_forms (some x)) ws ∙ q.1)

-- Law: a row that was read, without quotes and zeros in front, is written so.
pub row_back : (k : ℕ) (line : List ℕ) (r : Row) → row_of k line ≡ some r → any_of (eqb quote) line ≡ false
    → ((field : List ℕ) → Memᴰ field (pieces comma line) → Zeroless field) → line ≡ row_text k r
row_back k line r e q z =
    let p = row_parts k line r e in
    let b = texts_back row_forms (fields line) p.0 in
    let all : pieces comma line ≡ b.0 = some-injective (pieces comma line) b.0 b.1 in
    let written = b.2 (subst (Free (eqb quote)) all (fields_free line q)) (subst (λ (ws : List (List ℕ)). (w : List ℕ) → Memᴰ w ws → Zeroless w) all z) in
    sym (joined_pieces comma line)
    ∙ ap (joined comma) (all ∙ written)
    ∙ ap (λ (xs : List ℕ). joined comma (texts row_forms xs)) p.1
    ∙ values_text k r
