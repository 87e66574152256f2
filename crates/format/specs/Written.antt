-- What is written: a graph's file, and which files have the form of one. Assumes nothing.
use Rattle.std.specs.Prelude.{◌≡◌, Bool, false, ◌&&◌, ℕ, suc, leb, eqb, length, get_or}
use mathlib.Core.List.{List, [], ◌∷◌, ◌++◌, map, Memᴰ}
use Rattle.lemmas.specs.Lists.{any_of}
use Rattle.nodes.specs.Sets.{members}
use Rattle.nodes.specs.Words.{num}
use Rattle.waits.specs.declared.rows.Row.{Row}
use Rattle.waits.specs.Rows.{rows_of}
use Rattle.text.specs.Words.{decimal}
use Rattle.format.specs.Cut.{space, comma, quote, cr, lf, pieces, lines_of, joined, ended}
use Rattle.format.specs.Files.{headings}

-- a set: its members, ascending, one space between two
unfoldable pub set_text : ℕ → List ℕ
set_text s = joined space (map decimal (members s))

-- the line of node k
unfoldable pub row_text : ℕ → Row → List ℕ
row_text k r =
    joined comma
    (decimal k
    ∷ decimal r.kind
    ∷ decimal r.threshold
    ∷ set_text (num r.first)
    ∷ set_text (num r.second)
    ∷ set_text (num r.third)
    ∷ set_text (num r.fourth)
    ∷ [])

-- the lines of the nodes from k on
unfoldable pub row_texts : ℕ → List Row → List (List ℕ)
row_texts k [] = []
row_texts k (r ∷ rs) = row_text k r ∷ row_texts (suc k) rs

unfoldable pub header_text : List ℕ
header_text = joined comma headings

-- the file of a graph: the header and a line for each node, each with its end
unfoldable pub file_of : ℕ → List ℕ → List ℕ
file_of n rows = ended (header_text ∷ row_texts 0 (rows_of n rows))

-- ---- files that are written so: every line has its end, nothing is quoted, and no number has a zero in front

-- a piece of two bytes or more that starts with 0
unfoldable pub zero_in_front : List ℕ → Bool
zero_in_front w = leb 2 (length w) && eqb (get_or w 0 0) 48

pub record Plain (bytes : List ℕ) : Type 0 where
  pub text : List ℕ
  pub last_end : bytes ≡ text ++ cr ∷ lf ∷ []
  pub no_quote : any_of (eqb quote) bytes ≡ false
  pub no_zero : (line field w : List ℕ) → Memᴰ line (lines_of bytes) → Memᴰ field (pieces comma line) → Memᴰ w (pieces space field)
      → zero_in_front w ≡ false
