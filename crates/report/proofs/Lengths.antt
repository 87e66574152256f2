-- How long an answer can be. Assumes nothing.
use mathlib.Core.Path.{◌≡◌, refl, ap, ◌∙◌}
use mathlib.Core.Bool.{Bool, true, false, cond}
use mathlib.Core.List.{List, [], ◌∷◌, ◌++◌, Memᴰ}
use mathlib.Core.List.Memᴰ.{head as here}
use mathlib.Core.List.Memᴰ.{tail as there}
use Prim.Native.Nat.{ℕ, ◌*◌, ◌≤◌, ◌<◌}
use native.Mathlib.Omega.{arith}
use lib.Dec.{ltb}
use lib.ListN.{length, drop, length-append}
use borrow.Author.Tests.{ltb-false}
use Rattle.waits.specs.Numbers.{reason_number}
use Rattle.lemmas.specs.Lists.{Ascending}
use Rattle.nodes.specs.Sets.{set_of}
use Rattle.nodes.specs.Words.{places}
use Rattle.nodes.proofs.Gather.{in_list}
use Rattle.nodes.proofs.Inside.{inside_in, inside_lt}
use Rattle.nodes.proofs.Members.{members_list}
use Rattle.nodes.proofs.Operations.{in_below}
use Rattle.nodes.proofs.Size.{size_members, size_le}
use Rattle.text.specs.Words.{word, decimal}
use Rattle.text.specs.Text.{text}
use Rattle.text.proofs.Decimal.{decimal_two}
use Rattle.text.proofs.Writing.{write_fits}
use Rattle.lines.proofs.Lengths.{refused_length}
use Rattle.format.specs.Files.{Said, read_of}
use Rattle.format.specs.Files.Said.{Line, Refused, Graph}
use Rattle.report.specs.Report.{longest, input_of, node_lines, Answers, longest_answer, Answered}
use Rattle.report.specs.Report.Input.{TooLong, Says}
use Rattle.report.proofs.Small.{SmallSaid, read_small}

-- ---- the lines of nodes
lines_length : (l : List ℕ) → ((k : ℕ) → Memᴰ k l → k < 100) → length (node_lines l) ≤ 3 * length l
unfolding node_lines word
lines_length [] h = omega arith
lines_length (k ∷ l) h =
    omega (
      arith,
      length-append (decimal k ++ word "\n") (node_lines l),
      length-append (decimal k) (word "\n"),
      decimal_two k (h k (here refl)),
      lines_length l (λ j m. h j (there m)),
    )

-- numbers that ascend and have places are no more than these
ascending_few : (l : List ℕ) → Ascending l → ((k : ℕ) → Memᴰ k l → k < places) → length l ≤ places
ascending_few l up h =
    let s = set_of l in
    let small = inside_lt places s (inside_in s _ (λ k i. (in_below places k).1 (h k (in_list l k i)))) in
    omega (arith, ap length (members_list l up), size_members s, size_le places s small)

-- ---- the answer
too_long : (t : List ℕ) → Answers TooLong t → length t ≤ longest_answer
unfolding Answers
too_long t e = omega (arith, ap length e, refused_length 21 0 (omega arith) (omega arith))

said_short : (s : Said) (t : List ℕ) → SmallSaid s → Answers (Says s) t → length t ≤ longest_answer
unfolding Answers
said_short (Line k) t h e = omega (arith, ap length e, refused_length 20 k (omega arith) h)
said_short (Refused r) t h e = omega (arith, ap length e, refused_length (reason_number r.reason) r.row.0 h.0 h.1)
said_short (Graph n rows) t h (l, a, e) =
    let below : (k : ℕ) → Memᴰ k l → k < places = λ k m. let i = ((a.members k).0 m).0 in omega (arith, h) in
    omega (arith, ap length e, lines_length l (λ k m. let i = below k m in omega arith), ascending_few l a.ascends below)

-- Theorem: no answer is longer than this, whatever the file.
pub answer_short : (bytes t : List ℕ) → Answers (input_of bytes) t → length t ≤ longest_answer
unfolding input_of
answer_short bytes t = by (ltb longest (length bytes)) refl
  where
    by : (b : Bool) → ltb longest (length bytes) ≡ b → Answers (cond b TooLong (Says (read_of bytes))) t → length t ≤ longest_answer
    by true e a = too_long t a
    by false e a = said_short (read_of bytes) t (read_small bytes (ltb-false longest (length bytes) e)) a

-- Theorem: in room for so much nothing is clipped: the whole answer stands in front, and the bytes after it are as found.
pub answer_whole : (bytes found left : List ℕ) (end : ℕ) (s : Answered (input_of bytes) found left end) → longest_answer ≤ length found
    → text left end ≡ text (s.answer ++ drop (length s.answer) found) (length s.answer)
answer_whole bytes found left end s h = s.written ∙ write_fits found s.answer (omega (arith, answer_short bytes s.answer s.answers))
