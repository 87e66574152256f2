-- What is said of line 1 agrees with how it is read: of a file that begins with the header nothing else is said. Assumes nothing.
use mathlib.Core.Path.{◌≡◌, refl, sym, ap, ◌∙◌, subst}
use mathlib.Core.Bool.{true, false, ◌||◌, false≢true}
use mathlib.Core.Logic.{⊎_elim}
use mathlib.Core.List.{List, [], ◌∷◌, map}
use Prim.Native.Nat.{ℕ}
use native.Mathlib.Omega.{arith}
use lib.Dec.{eqb}
use lib.ListN.{length, get_or, take}
use borrow.Author.Tests.{eqb-true, eq-eqb, ne_eqb}
use Rattle.lemmas.proofs.Cases.{at_false}
use Rattle.lemmas.proofs.Tests.{not_both, not_true_false, true_or_false, and_left}
use Rattle.format.specs.Cut.{quote, comma, cr, lf, onto, pieces, lines_of}
use Rattle.format.specs.Fields.{bare, same}
use Rattle.format.specs.Files.{headings, is_header}
use Rattle.format.specs.Grammar.{text_data}
use Rattle.format.proofs.Open.{open_format}
use Rattle.format.proofs.Joining.{Free, joined_pieces, joined_free, pieces_alone, end_later, no_end}
use Rattle.format.proofs.Clean.{no_text, headings_clean}
use Rattle.format.proofs.Quoting.{field_free, bare_field}
use Rattle.format.proofs.Records.{values_of}
use Rattle.format.proofs.Values.{header_values}
use Rattle.faults.specs.declared.Fault.TheVariants.{NoHeader}
use Rattle.faults.specs.Faults.{has, mark, header_fault}
use Rattle.faults.proofs.Walking.{line_commas}

-- ---- a byte that is no text is in no line whose fields have text only
module _ (c : ℕ) (strange : no_text c ≡ true) (no-quote : eqb c quote ≡ false) (no-comma : eqb c comma ≡ false) where
  fields_free : (ps : List (List ℕ)) → Free no_text (map bare ps) → Free (eqb c) ps
  fields_free [] f = tt
  fields_free (p ∷ ps) f = (field_free c p (bare p) strange no-quote f.0 (bare_field p f.0), fields_free ps f.1)

  pub clean_has : (line : List ℕ) → Free no_text (values_of line) → has c line ≡ false
  clean_has line f = ap (has c) (sym (joined_pieces comma line)) ∙ joined_free (eqb c) comma (pieces comma line) no-comma (fields_free (pieces comma line) f)

-- ---- the header
module _ (line : List ℕ) (e : is_header line ≡ true) where
  header_clean : Free no_text (values_of line)
  header_clean = subst (Free no_text) (sym (header_values line e)) headings_clean

  header_comma : has comma line ≡ true
  header_comma =
      ⊎_elim
      (λ (t : has comma line ≡ true). t)
      (λ (t : has comma line ≡ false).
      let one : bare line ∷ [] ≡ headings = ap (map bare) (sym (pieces_alone comma line t)) ∙ header_values line e in
      absurd (omega (arith, ap length one)))
      (true_or_false (has comma line))

-- ---- the first byte of a file, if it is no CR, is the first of its first line
first_has : (x : ℕ) (l : List ℕ) → eqb cr x ≡ false → has x (get_or (lines_of (x ∷ l)) 0 []) ≡ true
unfolding lines_of
first_has x [] e = ap (λ t. t || false) (eq-eqb x x refl)
first_has x (y ∷ l) e = ap (λ (ls : List (List ℕ)). has x (get_or ls 0 [])) (end_later x y l (no_end x y e)) ∙ go (lines_of (y ∷ l))
  where
    go : (ls : List (List ℕ)) → has x (get_or (onto x ls) 0 []) ≡ true
    go [] = ap (λ t. t || false) (eq-eqb x x refl)
    go (p ∷ ps) = ap (λ t. t || has x p) (eq-eqb x x refl)

mark_has : (file : List ℕ) → same (take 3 file) mark ≡ true → has 239 (get_or (lines_of file) 0 []) ≡ true
unfolding same
mark_has [] e = absurd (false≢true e)
mark_has (x ∷ l) e =
    let first : x ≡ 239 = eqb-true x 239 (and_left (eqb x 239) _ e) in
    subst (λ (b : ℕ). has b (get_or (lines_of (x ∷ l)) 0 []) ≡ true) first (first_has x l (rw first refl))

some_byte : (file : List ℕ) → is_header (get_or (lines_of file) 0 []) ≡ true → eqb (length file) 0 ≡ false
unfolding open_format
some_byte [] e = absurd (false≢true e)
some_byte (x ∷ l) e = ne_eqb (length (x ∷ l)) 0 (λ q. omega arith)

-- Law: what is said of line 1, other than that it isn't the header, is never so of the header.
pub header_agrees : (file : List ℕ) → is_header (get_or (lines_of file) 0 []) ≡ true → header_fault file ≡ NoHeader
unfolding header_fault text_data
header_agrees file e =
    let line = get_or (lines_of file) 0 [] in
    let clean = header_clean line e in
    sym
    (at_false _ (some_byte file e)
    (at_false _ (not_true_false (same (take 3 file) mark) (λ m. not_both (mark_has file m) (clean_has 239 refl refl refl line clean)))
    (line_commas line NoHeader (clean_has lf refl refl refl line clean) (header_comma line e))))
