-- What is written has the form by which a file that was read is written back. Assumes nothing.
use mathlib.Core.Path.{◌≡◌, refl}
use mathlib.Core.Bool.{false}
use mathlib.Core.List.{List, [], ◌∷◌, Memᴰ}
use mathlib.Core.List.Memᴰ.{head as here}
use mathlib.Core.List.Memᴰ.{tail as there}
use Prim.Native.Nat.{ℕ, suc}
use lib.Dec.{eqb}
use Rattle.lemmas.specs.Lists.{any_of}
use Rattle.waits.specs.declared.rows.Row.{Row}
use Rattle.waits.specs.Rows.{rows_of}
use Rattle.text.specs.Digits.{is_digit}
use Rattle.format.specs.Cut.{space, quote, comma, cr, pieces, lines_of}
use Rattle.format.specs.Fields.{no_digit}
use Rattle.format.specs.Files.{headings}
use Rattle.format.specs.Written.{row_texts, header_text, file_of, zero_in_front, Plain}
use Rattle.format.proofs.Open.{open_format}
use Rattle.format.proofs.Joining.{lines_ended, last_end_lem, ended_free}
use Rattle.format.proofs.SetTexts.{Zeroless, alone_zeroless}
use Rattle.format.proofs.Lines.{header_free, rows_free, row_zeroless}

-- ---- the header
header_quote : any_of (eqb quote) header_text ≡ false
unfolding open_format
header_quote = refl

header_pieces : pieces comma header_text ≡ headings
unfolding open_format
header_pieces = refl

abbrev Alone : List (List ℕ) → Type 0
Alone [] = Unit {0}
Alone (w ∷ ws) = (any_of (eqb space) w ≡ false) × (zero_in_front w ≡ false) × Alone ws

all_zeroless : (ws : List (List ℕ)) → Alone ws → (field : List ℕ) → Memᴰ field ws → Zeroless field
all_zeroless [] a field m = absurd (elim m [ ])
all_zeroless (w ∷ ws) a field (here e) = rw e (alone_zeroless w a.0 a.1)
all_zeroless (w ∷ ws) a field (there m) = all_zeroless ws a.2 field m

headings_alone : Alone headings
unfolding open_format
headings_alone = (refl, refl, (refl, refl, (refl, refl, (refl, refl, (refl, refl, (refl, refl, (refl, refl, tt)))))))

-- ---- the lines
rows_zeroless : (k : ℕ) (rs : List Row) (line field : List ℕ) → Memᴰ line (row_texts k rs) → Memᴰ field (pieces comma line) → Zeroless field
unfolding row_texts
rows_zeroless k [] line field i m = absurd (elim i [ ])
rows_zeroless k (r ∷ rs) line field (here e) m = row_zeroless k r field (rw e at m)
rows_zeroless k (r ∷ rs) line field (there i) m = rows_zeroless (suc k) rs line field i m

lines_zeroless : (rs : List Row) (line field : List ℕ) → Memᴰ line (header_text ∷ row_texts 0 rs) → Memᴰ field (pieces comma line) → Zeroless field
lines_zeroless rs line field (here e) m = all_zeroless headings headings_alone field (rw (e, header_pieces) at m)
lines_zeroless rs line field (there i) m = rows_zeroless 0 rs line field i m

-- Theorem: whatever the graph, its file has that form.
pub written_plain : (n : ℕ) (rows : List ℕ) → Plain (file_of n rows)
unfolding file_of no_digit is_digit
written_plain n rows =
    let ls = header_text ∷ row_texts 0 (rows_of n rows) in
    let last = last_end_lem header_text (row_texts 0 (rows_of n rows)) in
    let lines : lines_of (file_of n rows) ≡ ls = lines_ended ls (header_free, rows_free cr 0 (rows_of n rows) refl refl refl) in
    record {
      text = last.0;
      last_end = last.1;
      no_quote = ended_free (eqb quote) ls refl refl (header_quote, rows_free quote 0 (rows_of n rows) refl refl refl);
      no_zero = λ line field w i m j. lines_zeroless (rows_of n rows) line field (rw lines at i) m w j;
    }
