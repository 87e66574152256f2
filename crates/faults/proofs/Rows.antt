-- What is said of a line agrees with how it is read: it has no fault but its node exactly if it is the row of some node.
-- Assumes nothing.
use mathlib.Core.Path.{◌≡◌, refl, sym, ap, ◌∙◌}
use mathlib.Core.Bool.{Bool, true, false, cond, not, ◌&&◌}
use mathlib.Core.Logic.{◌↔◌, ⊎_elim}
use mathlib.Core.List.{List, [], ◌∷◌}
use mathlib.Core.Option.{none, some, some-injective}
use Prim.Native.Nat.{ℕ, suc, ◌<◌}
use native.Mathlib.Omega.{arith}
use lib.Dec.{eqb}
use borrow.Author.Tests.{lt-ltb, le-ltb, eq-eqb}
use Rattle.std.specs.Prelude.{Result, Ok, Err}
use Rattle.lemmas.proofs.Cases.{at_true, at_false, of_true}
use Rattle.lemmas.proofs.Tests.{and_intro, true_or_false}
use Rattle.waits.specs.declared.rows.Row.{Row}
use Rattle.format.specs.Cut.{comma, lf, pieces}
use Rattle.format.specs.Fields.{bare, number_of, Taken, next, done}
use Rattle.format.specs.Files.{fields, row_of}
use Rattle.format.specs.Grammar.{text_data}
use Rattle.format.proofs.Joining.{Free, pieces_alone}
use Rattle.format.proofs.Taking.{next_read, next_back}
use Rattle.format.proofs.Forms.{Form, read_as, after, texts_back}
use Rattle.format.proofs.Forms.Form.{Number, Members}
use Rattle.format.proofs.Lines.{row_forms, row_parts}
use Rattle.format.proofs.Clean.{no_text, Clean, rows_clean}
use Rattle.format.proofs.Values.{row_values_lem}
use Rattle.format.proofs.Records.{values_of}
use Rattle.faults.specs.declared.flaws.Flaw.{Flaw}
use Rattle.faults.specs.declared.Fault.{Fault}
use Rattle.faults.specs.declared.Fault.TheVariants.{BareLf, Semicolons, Column, MoreFields, NotNext}
use Rattle.faults.specs.Flaws.{number_flaw, set_flaw}
use Rattle.faults.specs.Faults.{semicolon, has, line_fault, columns, field_flaw, column_then, fields_fault, row_fault}
use Rattle.faults.proofs.Agreeing.{number_agrees, set_agrees}
use Rattle.faults.proofs.Walking.{line_commas}
use Rattle.faults.proofs.Headers.{clean_has}

-- ---- a field of a form
abbrev flaw_as : Form → List ℕ → Result Unit Flaw
flaw_as Number = number_flaw
flaw_as Members = set_flaw

form_agrees : (f : Form) (w : List ℕ) → (flaw_as f w ≡ Ok tt) ↔ ((v : ℕ) × (read_as f w ≡ some v))
form_agrees Number w = number_agrees w
form_agrees Members w = set_agrees w

-- the columns from one on are of these forms
abbrev Columns : ℕ → List Form → Type 0
Columns column [] = column ≡ columns
Columns column (f ∷ forms) = (column < columns) × ((w : List ℕ) → field_flaw column w ≡ flaw_as f (bare w)) × Columns (suc column) forms

row_columns : Columns 0 row_forms
unfolding field_flaw
row_columns = (
  omega arith,
  λ w. refl,
  (omega arith, λ w. refl, (omega arith, λ w. refl, (omega arith, λ w. refl, (omega arith, λ w. refl, (omega arith, λ w. refl, (omega arith, λ w. refl, refl)))))),
)

-- ---- the fields of a line
more_not : MoreFields ≡ NotNext → ⊥
more_not e = let z : ◌≡◌ {A = ℕ} 0 1 = cc in omega arith

column_not : {c : ℕ} {f : Flaw} → Column c f ≡ NotNext → ⊥
column_not e = let z : ◌≡◌ {A = ℕ} 0 1 = cc in omega arith

then_fine : (c : ℕ) (j : Result Unit Flaw) (later : Fault) → column_then c j later ≡ NotNext → (j ≡ Ok tt) × (later ≡ NotNext)
then_fine c (Ok u) later e = (refl, e)
then_fine c (Err f) later e = absurd (column_not e)

fields_read : (column : ℕ) (forms : List Form) → Columns column forms → (ps : List (List ℕ)) → fields_fault column ps ≡ NotNext → after forms (some ps) ≡ some []
unfolding fields_fault
fields_read column [] s [] e = refl
fields_read column [] s (p ∷ ps) e = absurd (more_not (at_false _ (le-ltb column columns (omega arith)) refl ∙ e))
fields_read column (f ∷ forms) s [] e = absurd (column_not (at_true _ (lt-ltb column columns s.0) refl ∙ e))
fields_read column (f ∷ forms) s (p ∷ ps) e =
    let t = then_fine column (field_flaw column p) (fields_fault (suc column) ps) (of_true _ (lt-ltb column columns s.0) e) in
    let r = (form_agrees f (bare p)).0 (sym (s.1 p) ∙ t.0) in
    ap (λ (x : Taken). after forms x.rest) (next_read (read_as f) p ps r.0 r.1) ∙ fields_read (suc column) forms s.2 ps t.1

read_fields : (column : ℕ) (forms : List Form) → Columns column forms → (ps : List (List ℕ)) → after forms (some ps) ≡ some [] → fields_fault column ps ≡ NotNext
unfolding fields_fault
read_fields column [] s ps e = ap (fields_fault column) (some-injective ps [] e) ∙ sym (at_false _ (le-ltb column columns (omega arith)) refl)
read_fields column (f ∷ forms) s ps e =
    let q = texts_back forms (next (read_as f) (some ps)).rest e in
    let r = next_back (read_as f) (some ps) q.0 q.1 in
    let fine : field_flaw column r.0 ≡ Ok tt = s.1 r.0 ∙ (form_agrees f (bare r.0)).1 (_, r.2) in
    let later = read_fields (suc column) forms s.2 q.0 (ap (after forms) (sym q.1) ∙ e) in
    ap (fields_fault column) (some-injective ps (r.0 ∷ q.0) r.1)
    ∙ sym
    (at_true MoreFields (lt-ltb column columns s.0)
    (sym (ap (λ (j : Result Unit Flaw). column_then column j (fields_fault (suc column) q.0)) fine ∙ later)))

-- ---- a row has a comma, and no LF
one_field : (w : List ℕ) → fields_fault 0 (w ∷ []) ≡ NotNext → ⊥
unfolding fields_fault
one_field w e = column_not (then_fine 0 (field_flaw 0 w) _ e).1

fields_comma : (line : List ℕ) → fields_fault 0 (pieces comma line) ≡ NotNext → has comma line ≡ true
fields_comma line e =
    ⊎_elim
    (λ (t : has comma line ≡ true). t)
    (λ (t : has comma line ≡ false). absurd (one_field line (ap (fields_fault 0) (sym (pieces_alone comma line t)) ∙ e)))
    (true_or_false (has comma line))

clean_free : (vs : List (List ℕ)) → Clean vs → Free no_text vs
clean_free [] c = absurd c
clean_free (v ∷ []) c = absurd c
clean_free (v ∷ u ∷ vs) c = c

row_no_lf : (k : ℕ) (line : List ℕ) (r : Row) → row_of k line ≡ some r → has lf line ≡ false
unfolding text_data
row_no_lf k line r e =
    clean_has lf refl refl refl line (clean_free (values_of line) (rows_clean k (values_of line ∷ []) (r ∷ []) (row_values_lem k line r e, tt)).0)

-- ---- a line
row_faultless : (k : ℕ) (line : List ℕ) (r : Row) → row_of k line ≡ some r → row_fault line ≡ NotNext
unfolding row_fault
row_faultless k line r e =
    let own = read_fields 0 row_forms row_columns (pieces comma line) (row_parts k line r e).0 in
    sym (line_commas line (fields_fault 0 (pieces comma line)) (row_no_lf k line r e) (fields_comma line own)) ∙ own

own_fault : (line : List ℕ) (own : Fault) → line_fault line own ≡ NotNext → own ≡ NotNext
unfolding line_fault
own_fault line own = go (has lf line) (has semicolon line && not (has comma line))
  where
    go : (a b : Bool) → cond a BareLf (cond b Semicolons own) ≡ NotNext → own ≡ NotNext
    go true b e = absurd (let z : ◌≡◌ {A = ℕ} 0 1 = cc in omega arith)
    go false true e = absurd (let z : ◌≡◌ {A = ℕ} 0 1 = cc in omega arith)
    go false false e = e

-- Law: a line with no fault but its node is the row of the node that it names.
pub faultless_row : (line : List ℕ) → row_fault line ≡ NotNext → (r : Row) × (row_of (next number_of (fields line)).value line ≡ some r)
unfolding row_fault row_of
faultless_row line e =
    let k = (next number_of (fields line)).value in
    let all = fields_read 0 row_forms row_columns (pieces comma line) (own_fault line (fields_fault 0 (pieces comma line)) e) in
    (_, sym (at_true none (and_intro (done (after row_forms (fields line))) (eqb k k) (ap done all) (eq-eqb k k refl)) refl))

-- Law: a line has no fault but its node exactly if it is the row of some node.
pub row_agrees : (line : List ℕ) → (row_fault line ≡ NotNext) ↔ ((k : ℕ) × (r : Row) × (row_of k line ≡ some r))
row_agrees line = (λ e. let f = faultless_row line e in ((next number_of (fields line)).value, f.0, f.1), λ s. row_faultless s.0 line s.1 s.2)
