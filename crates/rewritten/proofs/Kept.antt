-- A file that isn't refused keeps its graph when it is rewritten, and from then on its bytes. Assumes nothing.
use mathlib.Core.Path.{◌≡◌, refl, sym, ap, ◌∙◌}
use mathlib.Core.Bool.{Bool, true, false, cond}
use mathlib.Core.List.{List}
use Prim.Native.Nat.{ℕ}
use native.Mathlib.Omega.{arith}
use lib.Dec.{ltb}
use lib.ListN.{length}
use borrow.Author.Tests.{le-ltb}
use Rattle.std.specs.Prelude.{Ok}
use Rattle.lemmas.proofs.Cases.{at_false}
use Rattle.waits.specs.Numbers.{check_of}
use Rattle.format.specs.Files.{Said, read_of}
use Rattle.format.specs.Files.Said.{Graph}
use Rattle.format.specs.Written.{file_of, Plain}
use Rattle.format.proofs.Back.{undone}
use Rattle.writer.proofs.Lengths.{file_short}
use Rattle.report.specs.Report.{longest, input_of}
use Rattle.report.specs.Report.Input.{TooLong, Says}
use Rattle.report.proofs.Settle.{read_accepted}
use Rattle.rewritten.specs.Rewritten.{written_back, rewritten_of}

-- what a file says that isn't too long
said_read : (bytes : List ℕ) (s : Said) → input_of bytes ≡ Says s → read_of bytes ≡ s
unfolding input_of
said_read bytes s = by (ltb longest (length bytes))
  where
    by : (b : Bool) → cond b TooLong (Says (read_of bytes)) ≡ Says s → read_of bytes ≡ s
    by true e = absurd (let z : ◌≡◌ {A = ℕ} 0 1 = cc e in omega arith)
    by false e = cc e

pub said_accepted : (bytes : List ℕ) (n : ℕ) (rows : List ℕ) → input_of bytes ≡ Says (Graph n rows) → check_of n rows ≡ Ok tt
said_accepted bytes n rows e = read_accepted n rows bytes (said_read bytes (Graph n rows) e)

module _ (bytes : List ℕ) (n : ℕ) (rows : List ℕ) (e : input_of bytes ≡ Says (Graph n rows)) where
  its_file : rewritten_of bytes ≡ file_of n rows
  unfolding rewritten_of written_back
  its_file = ap written_back e

  -- Theorem: what is written back says the same graph.
  pub same_graph : input_of (rewritten_of bytes) ≡ input_of bytes
  unfolding input_of
  same_graph =
      let ok = said_accepted bytes n rows e in
      ap input_of its_file
      ∙ sym (at_false TooLong (le-ltb longest (length (file_of n rows)) (omega (arith, file_short n rows ok))) refl)
      ∙ ap Says (undone.read_back n rows ok)
      ∙ sym e

  -- Theorem: rewritten again, it stays byte for byte.
  pub same_again : rewritten_of (rewritten_of bytes) ≡ rewritten_of bytes
  unfolding rewritten_of
  same_again = ap written_back same_graph

  -- Theorem: so does a file with no leading zeros and no quotes, CR LF after every line, the first time.
  pub plain_same : Plain bytes → rewritten_of bytes ≡ bytes
  plain_same p = its_file ∙ undone.byte_for_byte bytes n rows (said_read bytes (Graph n rows) e) p
