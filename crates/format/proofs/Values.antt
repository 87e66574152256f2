-- A line is the header, or a row, exactly if the values of its fields say so. Assumes nothing.
use mathlib.Core.Path.{◌≡◌, refl, sym, ap, ap₂, ◌∙◌, subst}
use mathlib.Core.Bool.{true}
use mathlib.Core.List.{List, [], ◌∷◌, map}
use mathlib.Core.Option.{some, some-injective}
use Prim.Native.Nat.{ℕ}
use native.Mathlib.Omega.{arith}
use lib.Dec.{eqb}
use borrow.Author.Tests.{eq-eqb}
use Rattle.lemmas.proofs.Cases.{at_true}
use Rattle.lemmas.proofs.Tests.{and_intro}
use Rattle.waits.specs.declared.rows.Row.{Row}
use Rattle.format.specs.Cut.{comma, pieces}
use Rattle.format.specs.Fields.{bare, same, word_in, Fields, Taken, next, done}
use Rattle.format.specs.Files.{fields, headings, words, is_header, row_of}
use Rattle.format.specs.Grammar.{RowSays}
use Rattle.format.proofs.Taking.{next_read, next_back, done_back}
use Rattle.format.proofs.Forms.{Form, read_as, after, values}
use Rattle.format.proofs.Lines.{words_back, row_forms, row_values, row_made, row_parts}
use Rattle.format.proofs.Records.{values_of}

-- ---- the header
pub header_values : (line : List ℕ) → is_header line ≡ true → values_of line ≡ headings
unfolding is_header
header_values line e =
    let q = words_back headings (fields line) (done_back _ e) in
    ap (map bare) (some-injective (pieces comma line) q.0 q.1) ∙ q.2

same_self : (w : List ℕ) → same w w ≡ true
unfolding same
same_self [] = refl
same_self (x ∷ w) = and_intro (eqb x x) (same w w) (eq-eqb x x refl) (same_self w)

word_here : (w v : List ℕ) → v ≡ w → word_in w v ≡ some 0
unfolding word_in
word_here w v e = sym (at_true _ (ap (λ (x : List ℕ). same x w) e ∙ same_self w) refl)

words_here : (ws ps : List (List ℕ)) → map bare ps ≡ ws → words ws (some ps) ≡ some []
words_here [] [] e = refl
words_here [] (p ∷ ps) e = absurd (let z : ◌≡◌ {A = ℕ} 0 1 = cc in omega arith)
words_here (w ∷ ws) [] e = absurd (let z : ◌≡◌ {A = ℕ} 0 1 = cc in omega arith)
words_here (w ∷ ws) (p ∷ ps) e =
    let first : bare p ≡ w = cc in
    let later : map bare ps ≡ ws = cc in
    ap (λ (t : Taken). words ws t.rest) (next_read (word_in w) p ps 0 (word_here w (bare p) first)) ∙ words_here ws ps later

pub values_header : (line : List ℕ) → values_of line ≡ headings → is_header line ≡ true
unfolding is_header
values_header line e = ap done (words_here headings (pieces comma line) e)

-- ---- fields of given forms: their values say these numbers, and there are no more
abbrev AllSay : List Form → List ℕ → List (List ℕ) → Type 0
AllSay [] [] vs = vs ≡ []
AllSay [] (n ∷ ns) vs = ⊥
AllSay (f ∷ forms) [] vs = ⊥
AllSay (f ∷ forms) (n ∷ ns) vs = (v : List ℕ) × (later : List (List ℕ)) × (vs ≡ v ∷ later) × (read_as f v ≡ some n) × AllSay forms ns later

fields_said : (forms : List Form) (fs : Fields) → after forms fs ≡ some [] → (ps : List (List ℕ)) × (fs ≡ some ps) × AllSay forms (values forms fs) (map bare ps)
fields_said [] fs e = ([], e, refl)
fields_said (f ∷ forms) fs e =
    let q = fields_said forms (next (read_as f) fs).rest e in
    let r = next_back (read_as f) fs q.0 q.1 in
    (r.0 ∷ q.0, r.1, (bare r.0, map bare q.0, refl, r.2, q.2))

said_fields : (forms : List Form) (ns : List ℕ) (ps : List (List ℕ)) → AllSay forms ns (map bare ps) → (after forms (some ps) ≡ some []) × (values forms (some ps) ≡ ns)
said_fields [] [] [] s = (refl, refl)
said_fields [] [] (p ∷ ps) s = absurd (let z : ◌≡◌ {A = ℕ} 0 1 = cc in omega arith)
said_fields [] (n ∷ ns) ps s = absurd s
said_fields (f ∷ forms) [] ps s = absurd s
said_fields (f ∷ forms) (n ∷ ns) [] s = absurd (let e = s.2 in let z : ◌≡◌ {A = ℕ} 0 1 = cc e in omega arith)
said_fields (f ∷ forms) (n ∷ ns) (p ∷ ps) s =
    let e = s.2 in
    let first : bare p ≡ s.0 = cc e in
    let later : s.1 ≡ map bare ps = cc e in
    let ih = said_fields forms ns ps (rw later at s.4) in
    let this = next_read (read_as f) p ps n (ap (read_as f) first ∙ s.3) in (
      ap (λ (t : Taken). after forms t.rest) this ∙ ih.0,
      ap₂ (λ (x : ℕ) (xs : List ℕ). x ∷ xs) (ap (λ (t : Taken). t.value) this) (ap (λ (t : Taken). values forms t.rest) this ∙ ih.1),
    )

-- ---- a row
on : (v : List ℕ) {ws us : List (List ℕ)} → ws ≡ us → v ∷ ws ≡ v ∷ us
on v e = ap (λ (x : List (List ℕ)). v ∷ x) e

says_row : (k : ℕ) (vs : List (List ℕ)) (r : Row) → AllSay row_forms (row_values k r) vs → RowSays k vs r
says_row k vs r a =
    let b = a.4 in
    let c = b.4 in
    let d = c.4 in
    let e = d.4 in
    let f = e.4 in
    let g = f.4 in
    record {
      node = a.0;
      kind = b.0;
      threshold = c.0;
      set1 = d.0;
      set2 = e.0;
      set3 = f.0;
      set4 = g.0;
      seven = a.2 ∙ on a.0 (b.2 ∙ on b.0 (c.2 ∙ on c.0 (d.2 ∙ on d.0 (e.2 ∙ on e.0 (f.2 ∙ on f.0 (g.2 ∙ on g.0 g.4))))));
      is_node = a.3;
      is_kind = b.3;
      is_threshold = c.3;
      is_first = d.3;
      is_second = e.3;
      is_third = f.3;
      is_fourth = g.3;
    }

row_says : (k : ℕ) (vs : List (List ℕ)) (r : Row) → RowSays k vs r → AllSay row_forms (row_values k r) vs
row_says k vs r s = (
  s.node,
  _,
  s.seven,
  s.is_node,
  (
    s.kind,
    _,
    refl,
    s.is_kind,
    (
      s.threshold,
      _,
      refl,
      s.is_threshold,
      (s.set1, _, refl, s.is_first, (s.set2, _, refl, s.is_second, (s.set3, _, refl, s.is_third, (s.set4, _, refl, s.is_fourth, refl)))),
    ),
  ),
)

-- Law: a line that is a row has values that say it.
pub row_values_lem : (k : ℕ) (line : List ℕ) (r : Row) → row_of k line ≡ some r → RowSays k (values_of line) r
row_values_lem k line r e =
    let p = row_parts k line r e in
    let b = fields_said row_forms (fields line) p.0 in
    let all : b.0 ≡ pieces comma line = sym (some-injective (pieces comma line) b.0 b.1) in
    says_row k (values_of line) r
    (subst (λ (ns : List ℕ). AllSay row_forms ns (values_of line)) p.1
    (subst (λ (ps : List (List ℕ)). AllSay row_forms (values row_forms (fields line)) (map bare ps)) all b.2))

-- Law: and one with such values is that row.
pub values_row : (k : ℕ) (line : List ℕ) (r : Row) → RowSays k (values_of line) r → row_of k line ≡ some r
values_row k line r s = let q = said_fields row_forms (row_values k r) (pieces comma line) (row_says k (values_of line) r s) in row_made k line r q.0 q.1
