-- An input has one answer, and any two results that the promise allows are equal, lent bytes included. Assumes nothing.
use mathlib.Core.Path.{◌≡◌, sym, ap, ◌∙◌}
use mathlib.Core.List.{List}
use Prim.Native.Nat.{ℕ}
use Rattle.lemmas.proofs.Ascending.{ascending_unique}
use Rattle.lemmas.proofs.Cases.{only_one}
use Rattle.text.specs.Text.{Text, text, write}
use Rattle.format.specs.Files.Said.{Line, Refused, Graph}
use Rattle.report.specs.Report.{Input, input_of, Stuck, node_lines, Answers, Answered}
use Rattle.report.specs.Report.Input.{TooLong, Says}

-- the deadlocked nodes make one list
one_list : (n : ℕ) (rows l m : List ℕ) → Stuck n rows l → Stuck n rows m → l ≡ m
one_list n rows l m a b =
    ascending_unique l m a.ascends b.ascends (λ k. (λ i. (b.members k).1 ((a.members k).0 i), λ i. (a.members k).1 ((b.members k).0 i)))

-- Law: an input has one answer.
pub one_answer : (i : Input) (s t : List ℕ) → Answers i s → Answers i t → s ≡ t
unfolding Answers
one_answer TooLong s t p q = only_one p q
one_answer (Says (Line line)) s t p q = only_one p q
one_answer (Says (Refused r)) s t p q = only_one p q
one_answer (Says (Graph n rows)) s t (l, a, e) (m, b, f) = e ∙ ap node_lines (one_list n rows l m a b) ∙ sym f

-- Law: of what is written, and of where it ends.
pub one_result : (bytes found left right : List ℕ) (x y : ℕ) → Answered (input_of bytes) found left x → Answered (input_of bytes) found right y → (left ≡ right) × (x ≡ y)
one_result bytes found left right x y p q =
    let same : p.answer ≡ q.answer = one_answer (input_of bytes) p.answer q.answer p.answers q.answers in
    let all : text left x ≡ text right y = p.written ∙ ap (write (text found 0)) same ∙ sym q.written in
    (ap (λ (t : Text). t.places) all, ap (λ (t : Text). t.end) all)
