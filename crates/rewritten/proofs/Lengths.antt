-- How long a text that is written back can be. Assumes nothing.
use mathlib.Core.Path.{◌≡◌, refl, sym, subst}
use mathlib.Core.List.{List, ◌++◌}
use Prim.Native.Nat.{ℕ, ◌≤◌}
use native.Mathlib.Omega.{arith}
use lib.ListN.{length, drop}
use Rattle.text.specs.Text.{text, write}
use Rattle.text.proofs.Writing.{write_fits}
use Rattle.format.specs.Files.Said.{Line, Refused, Graph}
use Rattle.writer.specs.Answer.{longest_file}
use Rattle.writer.proofs.Lengths.{file_short}
use Rattle.report.specs.Report.{Input, input_of, Answers}
use Rattle.report.specs.Report.Input.{TooLong, Says}
use Rattle.report.proofs.Lengths.{answer_short}
use Rattle.rewritten.specs.Rewritten.{written_back, rewritten_of}
use Rattle.rewritten.proofs.Kept.{said_accepted}

module _ (bytes : List ℕ) where
  refused_short : {i : Input} → input_of bytes ≡ i → Answers i (written_back i) → length (written_back i) ≤ longest_file
  refused_short {i} e a = let s = answer_short bytes (written_back i) (subst (λ (j : Input). Answers j (written_back i)) (sym e) a) in omega arith

  input_short : (i : Input) → input_of bytes ≡ i → length (written_back i) ≤ longest_file
  unfolding Answers written_back
  input_short TooLong e = refused_short e refl
  input_short (Says (Line line)) e = refused_short e refl
  input_short (Says (Refused r)) e = refused_short e refl
  input_short (Says (Graph n rows)) e = file_short n rows (said_accepted bytes n rows e)

  -- Theorem: no text that is written back is longer than this, whatever the file.
  pub rewritten_short : length (rewritten_of bytes) ≤ longest_file
  unfolding rewritten_of
  rewritten_short = input_short (input_of bytes) refl

  -- Theorem: in room for so much nothing is clipped: the whole text stands in front, and the bytes after it are as found.
  pub rewritten_whole : (found : List ℕ) → longest_file ≤ length found
      → write (text found 0) (rewritten_of bytes) ≡ text (rewritten_of bytes ++ drop (length (rewritten_of bytes)) found) (length (rewritten_of bytes))
  rewritten_whole found h = write_fits found (rewritten_of bytes) (omega (arith, rewritten_short))
