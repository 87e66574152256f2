-- What is written, against what the definitions say of a file. Assumes nothing.
use mathlib.Core.Path.{◌≡◌, refl, sym, ap, ◌∙◌}
use mathlib.Core.Logic.{◌⊎◌, inl, inr}
use mathlib.Core.List.{List, [], ◌++◌}
use Prim.Native.Nat.{ℕ, ◌≤◌, ◌<◌}
use lib.Dec.{leb}
use lib.ListN.{length}
use borrow.Author.Tests.{lt-ltb, le-ltb, lt-leb, le-leb}
use Rattle.std.specs.Prelude.{Result, Ok, Err}
use Rattle.lemmas.proofs.Cases.{at_true, at_false}
use Rattle.lemmas.proofs.Tests.{and_intro, and_first, and_later}
use Rattle.text.specs.Words.{word, decimal}
use Rattle.format.specs.Files.{Said, read_of}
use Rattle.format.specs.Files.Said.{Line, Refused, Graph}
use Rattle.reader.specs.declared.files.Wrong.{Wrong}
use Rattle.reader.specs.declared.files.Wrong.TheVariants.{Line as Wrong-as-Line, Refused as Wrong-as-Refused}
use Rattle.reader.specs.declared.files.File.{File}
use Rattle.reader.specs.Answers.{no_graph, file_said}
use Rattle.report.specs.Report.{longest, input_of}
use Rattle.report.specs.Report.Input.{Says}
use Rattle.reasons.specs.Reasons.{line_reason, place_words, graph_reason, reason_for, reason_of}

-- ---- the row of a graph's number
module _ (number row : ℕ) where
  pub none_placed : (number < 2) ⊎ ((2 ≤ number) × (7 < number)) → [] ≡ place_words number row
  unfolding place_words
  none_placed (inl h) = at_false (word "row " ++ decimal row ++ word ": ") (and_first (leb number 7) (lt-leb 2 number h)) refl
  none_placed (inr h) = at_false (word "row " ++ decimal row ++ word ": ") (and_later (leb 2 number) (lt-leb number 7 h.1)) refl

  pub row_placed : 2 ≤ number → number ≤ 7 → word "row " ++ decimal row ++ word ": " ≡ place_words number row
  unfolding place_words
  row_placed l h = at_true [] (and_intro (leb 2 number) (leb number 7) (le-leb 2 number l) (le-leb number 7 h)) refl

-- ---- a file
abbrev pub answer_reason : List ℕ → Result File Wrong → List ℕ
answer_reason bytes (Ok f) = []
answer_reason bytes (Err (Wrong-as-Line line)) = line_reason bytes line
answer_reason bytes (Err (Wrong-as-Refused r)) = graph_reason r

answer_says : (bytes : List ℕ) (s : Said) → answer_reason bytes (file_said s) ≡ reason_for bytes (Says s)
unfolding file_said no_graph reason_for
answer_says bytes (Line line) = refl
answer_says bytes (Refused r) = refl
answer_says bytes (Graph n rows) = refl

module _ (bytes : List ℕ) where
  pub long_said : longest < length bytes → word "the file has more than 65536 bytes\n" ≡ reason_of bytes
  unfolding reason_of input_of reason_for
  long_said h = ap (reason_for bytes) (at_true _ (lt-ltb longest (length bytes) h) refl)

  pub said_as : length bytes ≤ longest → {x y : Result File Wrong} → x ≡ file_said (read_of bytes) → x ≡ y → answer_reason bytes y ≡ reason_of bytes
  unfolding reason_of input_of
  said_as short read e =
      ap (answer_reason bytes) (sym e ∙ read)
      ∙ answer_says bytes (read_of bytes)
      ∙ ap (reason_for bytes) (at_false _ (le-ltb longest (length bytes) short) refl)
