-- What is written back, from what the callees said. Assumes nothing.
use mathlib.Core.Path.{◌≡◌, refl, sym, ap, ap₂, ◌∙◌}
use mathlib.Core.List.{List, ◌++◌}
use Prim.Native.Nat.{ℕ, ◌*◌, ◌≤◌, ◌<◌}
use native.Mathlib.Omega.{arith}
use lib.ListN.{length, take, drop, replicate, length-replicate, length-append}
use lib.Seq.{take_at}
use borrow.Author.Tests.{lt-ltb, le-ltb}
use Rattle.std.specs.Prelude.{Result, Ok, Err}
use Rattle.lemmas.proofs.Cases.{at_true, at_false}
use Rattle.waits.specs.declared.refusals.Refusal.{Refusal}
use Rattle.waits.specs.Rows.{row_size}
use Rattle.waits.specs.Numbers.{Line as Rule, line, graph_lines, check_of}
use Rattle.waits.proofs.Next.{next, not_refused}
use Rattle.text.specs.Text.{text, write}
use Rattle.format.specs.Files.{read_of}
use Rattle.format.specs.Files.Said.{Line, Refused, Graph}
use Rattle.format.specs.Written.{file_of}
use Rattle.reader.specs.declared.files.Wrong.{Wrong}
use Rattle.reader.specs.declared.files.File.{File}
use Rattle.reader.specs.Answers.{file_said}
use Rattle.writer.specs.Answer.{short_room, check_file_of, answer, leave, written_of, left_of, WrittenSays, longest_file}
use Rattle.writer.proofs.Lengths.{file_short}
use Rattle.report.specs.Report.{longest, Input, input_of, Answers, Answered}
use Rattle.report.specs.Report.Input.{TooLong, Says}
use Rattle.report.proofs.Settle.{read_accepted, is_graph}
use Rattle.report.proofs.Unique.{one_answer}
use Rattle.rewritten.specs.Rewritten.{written_back, rewritten_of}
use Rattle.waits.specs.declared.refusals.Reason.TheVariants.{ShortRoom}

-- ---- the writer refuses neither an accepted graph nor room for any file
module _ (n : ℕ) (rows found : List ℕ) (ok : check_of n rows ≡ Ok tt) (roomy : found ≡ replicate longest_file 0) where
  room_enough : length found ≡ longest_file
  room_enough = ap length roomy ∙ length-replicate {A = ℕ} longest_file 0

  accepted : check_file_of n rows (length found) ≡ Ok tt
  unfolding check_of check_file_of short_room
  accepted =
      let last : Rule = line ShortRoom 0 (short_room n rows (length found)) in
      sym (not_refused last (next (graph_lines n rows) last) ok (le-ltb (length found) (length (file_of n rows)) (omega (arith, room_enough, file_short n rows ok))))

  module _ (left : List ℕ) (r : Result ℕ Refusal) (says : WrittenSays n rows found left r) where
    is_written : r ≡ Ok (length (file_of n rows))
    unfolding written_of
    is_written = says.0 ∙ ap (λ (c : Result Unit Refusal). answer c (file_of n rows)) accepted

    stands : left ≡ file_of n rows ++ drop (length (file_of n rows)) found
    unfolding left_of
    stands = says.1 ∙ ap (λ (c : Result Unit Refusal). leave c (file_of n rows) found) accepted

    pub never_refused : {x : Refusal} → r ≡ Err x → ⊥
    never_refused e = let z : ◌≡◌ {A = ℕ} 0 1 = cc (e, is_written) in omega arith

    module _ (end : ℕ) (e : r ≡ Ok end) where
      all : end ≡ length (file_of n rows)
      all = cc (e, is_written)

      pub written_front : take end left ≡ file_of n rows
      written_front = ap₂ take all stands ∙ take_at (file_of n rows) (drop (length (file_of n rows)) found) (length (file_of n rows)) refl

      pub written_inside : end ≤ length left
      written_inside = omega (arith, all, ap length stands, length-append (file_of n rows) (drop (length (file_of n rows)) found))

-- ---- Theorem: what is refused gets the line that `claims` answers it with.
abbrev pub NoGraph : Input → Type 0
NoGraph i = (n : ℕ) (rows : List ℕ) → i ≡ Says (Graph n rows) → ⊥

pub refused_alike : (i : Input) → NoGraph i → Answers i (written_back i)
unfolding Answers written_back
refused_alike TooLong none = refl
refused_alike (Says (Line line)) none = refl
refused_alike (Says (Refused r)) none = refl
refused_alike (Says (Graph n rows)) none = absurd (none n rows refl)

-- ---- a file
module _ (bytes found left : List ℕ) (end : ℕ) where
  refused : NoGraph (input_of bytes) → Answered (input_of bytes) found left end → text left end ≡ write (text found 0) (rewritten_of bytes)
  unfolding rewritten_of
  refused none a = a.written ∙ ap (write (text found 0)) (one_answer (input_of bytes) a.answer _ a.answers (refused_alike (input_of bytes) none))

  pub long_refused : longest < length bytes → Answered (input_of bytes) found left end → text left end ≡ write (text found 0) (rewritten_of bytes)
  unfolding input_of
  long_refused h = refused (λ n rows e. let z : ◌≡◌ {A = ℕ} 0 1 = cc (e, at_true (Says (read_of bytes)) (lt-ltb longest (length bytes) h) refl) in omega arith)

  module _ (h : length bytes ≤ longest) {x : Result File Wrong} (read : x ≡ file_said (read_of bytes)) where
    says : input_of bytes ≡ Says (read_of bytes)
    unfolding input_of
    says = sym (at_false TooLong (le-ltb longest (length bytes) h) refl)

    pub wrong_refused : {w : Wrong} → x ≡ Err w → Answered (input_of bytes) found left end → text left end ≡ write (text found 0) (rewritten_of bytes)
    unfolding file_said
    wrong_refused e = refused λ n rows f.
        let graph : read_of bytes ≡ Graph n rows = cc (f, says) in
        let said = ap file_said graph in
        cc (e, read, said)

    pub graph_written : {f : File} → x ≡ Ok f → text left end ≡ write (text found 0) (file_of f.nodes (take (f.nodes * row_size) f.rows))
        → text left end ≡ write (text found 0) (rewritten_of bytes)
    unfolding rewritten_of written_back
    graph_written e w = w ∙ ap (λ (i : Input). write (text found 0) (written_back i)) (ap Says (sym (is_graph bytes read e)) ∙ sym says)

module _ (bytes : List ℕ) {x : Result File Wrong} (read : x ≡ file_said (read_of bytes)) {f : File} (e : x ≡ Ok f) where
  pub graph_accepted : check_of f.nodes (take (f.nodes * row_size) f.rows) ≡ Ok tt
  graph_accepted = read_accepted f.nodes (take (f.nodes * row_size) f.rows) bytes (is_graph bytes read e)
