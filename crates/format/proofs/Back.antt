-- Writing and reading undo each other: a file that is written is read as the graph that it was written from, and one that was read,
-- of the form of those that are written, is written back byte for byte. Assumes nothing.
use mathlib.Core.Path.{◌≡◌, refl, sym, ap, ap₂, ◌∙◌}
use mathlib.Core.Bool.{Bool, true, false, cond}
use mathlib.Core.List.{List, [], ◌∷◌, Memᴰ}
use mathlib.Core.List.Memᴰ.{head as here}
use mathlib.Core.List.Memᴰ.{tail as there}
use mathlib.Core.Option.{Option, none, some}
use Prim.Native.Nat.{ℕ, suc, ◌+◌}
use native.Mathlib.Omega.{arith}
use lib.Dec.{eqb}
use lib.ListN.{length}
use Rattle.std.specs.Prelude.{Result, Ok, Err}
use Rattle.lemmas.specs.Lists.{any_of}
use Rattle.lemmas.proofs.Cases.{at_true}
use Rattle.waits.specs.declared.rows.Row.{Row}
use Rattle.waits.specs.declared.refusals.Refusal.{Refusal}
use Rattle.waits.specs.Rows.{flat, rows_of}
use Rattle.waits.specs.Numbers.{check_of}
use Rattle.waits.proofs.Flat.{flat_length, flat_rows, rows_flat}
use Rattle.waits.proofs.Table.{accepted_shaped}
use Rattle.text.specs.Digits.{is_digit}
use Rattle.format.specs.Cut.{quote, comma, cr, pieces, lines_of, ended}
use Rattle.format.specs.Fields.{no_digit}
use Rattle.format.specs.Files.{is_header, row_of, Meant, row_then, rows_from, under_header, meant_by, judged, said_of, read_of}
use Rattle.format.specs.Files.Meant.{Broken, Rows}
use Rattle.format.specs.Files.Said.{Graph}
use Rattle.format.specs.Written.{row_texts, header_text, file_of, Plain}
use Rattle.format.specs.Undone.{Undone}
use Rattle.format.proofs.Joining.{Free, ended_lines, lines_ended, free_ended}
use Rattle.format.proofs.SetTexts.{Zeroless}
use Rattle.format.proofs.Lines.{header_free, header_read, header_back, rows_free, row_read, row_back}
use Rattle.format.proofs.Accepted.{RowsFit, accepted_fit}
use Rattle.format.proofs.Writing.{written_plain}

-- ---- the lines that are written are read
rows_read : (k : ℕ) (rs : List Row) → RowsFit k rs → rows_from k (row_texts k rs) ≡ Rows rs
unfolding rows_from row_texts
rows_read k [] h = refl
rows_read k (r ∷ rs) h = ap₂ (row_then (k + 2)) (row_read k r h.0) (rows_read (suc k) rs h.1)

-- Theorem: what is written of an accepted graph is read as that graph.
read_written : (n : ℕ) (rows : List ℕ) → check_of n rows ≡ Ok tt → read_of (file_of n rows) ≡ Graph n rows
unfolding read_of meant_by file_of no_digit is_digit
read_written n rows ok =
    let rs = rows_of n rows in
    let shaped = accepted_shaped n rows ok in
    let whole : flat rs ≡ rows = flat_rows n rows shaped.1 in
    let count : length rs ≡ n = omega (arith, flat_length rs, ap length whole, shaped.1) in
    ap (λ (ls : List (List ℕ)). said_of (under_header ls)) (lines_ended (header_text ∷ row_texts 0 rs) (header_free, rows_free cr 0 rs refl refl refl))
    ∙ ap said_of (sym (at_true (Broken 1) header_read refl) ∙ rows_read 0 rs (accepted_fit n rows ok))
    ∙ ap₂ (λ (m : ℕ) (xs : List ℕ). judged m xs (check_of m xs)) count whole
    ∙ ap (judged n rows) ok

-- ---- and back
judged_back : (m : ℕ) (xs : List ℕ) (c : Result Unit Refusal) (n : ℕ) (rows : List ℕ) → judged m xs c ≡ Graph n rows → (m ≡ n) × (xs ≡ rows)
judged_back m xs (Err r) n rows e = absurd (let z : ◌≡◌ {A = ℕ} 0 1 = cc in omega arith)
judged_back m xs (Ok tt) n rows e = (cc, cc)

said_back : (m : Meant) (n : ℕ) (rows : List ℕ) → said_of m ≡ Graph n rows → (rs : List Row) × (m ≡ Rows rs) × (length rs ≡ n) × (flat rs ≡ rows)
said_back (Broken line) n rows e = absurd (let z : ◌≡◌ {A = ℕ} 0 1 = cc in omega arith)
said_back (Rows rs) n rows e = let q = judged_back (length rs) (flat rs) (check_of (length rs) (flat rs)) n rows e in (rs, refl, q.0, q.1)

pub row_then_lem : (line : ℕ) (o : Option Row) (m : Meant) (rs : List Row) → row_then line o m ≡ Rows rs
    → (r : Row) × (rest : List Row) × (o ≡ some r) × (m ≡ Rows rest) × (rs ≡ r ∷ rest)
row_then_lem line none m rs e = absurd (let z : ◌≡◌ {A = ℕ} 0 1 = cc in omega arith)
row_then_lem line (some r) (Broken later) rs e = absurd (let z : ◌≡◌ {A = ℕ} 0 1 = cc in omega arith)
row_then_lem line (some r) (Rows rest) rs e = (r, rest, refl, refl, cc)

-- no field of the lines has a zero in front
abbrev NoZero : List (List ℕ) → Type 0
NoZero ls = (line field : List ℕ) → Memᴰ line ls → Memᴰ field (pieces comma line) → Zeroless field

rows_back : (k : ℕ) (ls : List (List ℕ)) (rs : List Row) → rows_from k ls ≡ Rows rs → Free (eqb quote) ls → NoZero ls → ls ≡ row_texts k rs
unfolding rows_from row_texts
rows_back k [] rs e f z = ap (row_texts k) (let q : [] ≡ rs = cc in q)
rows_back k (l ∷ ls) rs e f z =
    let q = row_then_lem (k + 2) (row_of k l) (rows_from (suc k) ls) rs e in
    ap₂ (λ (x : List ℕ) (xs : List (List ℕ)). x ∷ xs)
    (row_back k l q.0 q.2 f.0 (λ field m. z l field (here refl) m))
    (rows_back (suc k) ls q.1 q.3 f.1 (λ line field i m. z line field (there i) m))
    ∙ ap (row_texts k) (sym q.4)

lines_back : (ls : List (List ℕ)) (rs : List Row) → under_header ls ≡ Rows rs → Free (eqb quote) ls → NoZero ls → ls ≡ header_text ∷ row_texts 0 rs
lines_back [] rs e f z = absurd (let q : ◌≡◌ {A = ℕ} 0 1 = cc in omega arith)
lines_back (l ∷ ls) rs e f z = go (is_header l) refl e
  where
    go : (t : Bool) → is_header l ≡ t → cond t (rows_from 0 ls) (Broken 1) ≡ Rows rs → l ∷ ls ≡ header_text ∷ row_texts 0 rs
    go true h e = ap₂ (λ (x : List ℕ) (xs : List (List ℕ)). x ∷ xs) (header_back l h f.0) (rows_back 0 ls rs e f.1 (λ line field i m. z line field (there i) m))
    go false h e = absurd (let q : ◌≡◌ {A = ℕ} 0 1 = cc in omega arith)

-- Theorem: a file of the form of those that are written is written back byte for byte.
written_back_lem : (bytes : List ℕ) (n : ℕ) (rows : List ℕ) → read_of bytes ≡ Graph n rows → Plain bytes → file_of n rows ≡ bytes
unfolding read_of meant_by file_of
written_back_lem bytes n rows e plain =
    let ls = lines_of bytes in
    let q = said_back (under_header ls) n rows e in
    let rs = q.0 in
    let whole : ended ls ≡ bytes = ap (λ (b : List ℕ). ended (lines_of b)) plain.last_end ∙ ended_lines plain.text ∙ sym plain.last_end in
    let same : rows_of n rows ≡ rs = ap₂ rows_of (sym q.2) (sym q.3) ∙ rows_flat rs in
    ap (λ (xs : List Row). ended (header_text ∷ row_texts 0 xs)) same
    ∙ ap ended
    (sym
    (lines_back ls rs q.1 (free_ended (eqb quote) ls (ap (any_of (eqb quote)) whole ∙ plain.no_quote)) (λ line field i m w. plain.no_zero line field w i m)))
    ∙ whole

-- Theorem: writing and reading undo each other.
pub undone : Undone
undone = record {
  read_back = read_written;
  byte_for_byte = written_back_lem;
  plain = written_plain;
  one_file = λ bytes bytes' n rows e f p q. sym (written_back_lem bytes n rows e p) ∙ written_back_lem bytes' n rows f q;
}
