-- What a graph and a file are answered with, from what the callees said. Assumes nothing.
use mathlib.Core.Path.{◌≡◌, refl, sym, ap, ap₂, subst, ◌∙◌}
use mathlib.Core.Logic.{◌↔◌}
use mathlib.Core.List.{List}
use Prim.Native.Nat.{ℕ, ◌*◌, ◌≤◌, ◌<◌}
use native.Mathlib.Omega.{arith}
use lib.ListN.{length, take, length-replicate}
use lib.Seq.{sets}
use borrow.Author.Tests.{lt-ltb, le-ltb}
use Rattle.std.specs.Prelude.{Result, Ok, Err}
use Rattle.lemmas.proofs.Cases.{at_true, at_false}
use Rattle.lemmas.proofs.Stores.{front_taken}
use Rattle.nodes.specs.declared.Set.{Set}
use Rattle.nodes.specs.Sets.{In, members}
use Rattle.nodes.specs.Words.{places, num}
use Rattle.nodes.proofs.Members.{members_in, members_ascending}
use Rattle.waits.specs.declared.refusals.Refusal.{Refusal}
use Rattle.waits.specs.Deadlocked.{Deadlocked}
use Rattle.waits.specs.Rows.{row_size, flat, waits_of, Shaped}
use Rattle.waits.specs.Numbers.{check_of}
use Rattle.waits.proofs.Table.{accepted_shaped}
use Rattle.deadlock.specs.Claims.{FoundSays}
use Rattle.text.specs.declared.Text.{Text as Lent}
use Rattle.text.specs.Text.{Wrote}
use Rattle.lines.specs.Lines.{refused_line}
use Rattle.format.specs.Files.{Meant, Said, judged, said_of, meant_by, read_of}
use Rattle.format.specs.Files.Meant.{Broken, Rows}
use Rattle.format.specs.Files.Said.{Line, Refused, Graph}
use Rattle.reader.specs.declared.files.Wrong.{Wrong}
use Rattle.reader.specs.declared.files.Wrong.TheVariants.{Line as Wrong-as-Line, Refused as Wrong-as-Refused}
use Rattle.reader.specs.declared.files.File.{File}
use Rattle.reader.specs.Answers.{numbers, zeros, no_graph, file_said}
use Rattle.report.specs.Report.{longest, Input, input_of, Stuck, node_lines, refusal_line, Answers, input_is, Gave}
use Rattle.report.specs.Report.Input.{TooLong, Says}

-- ---- a graph
pub set_stuck : (n : ℕ) (rows : List ℕ) (s : ℕ) → ((k : ℕ) → In k s ↔ ((k < n) × Deadlocked (waits_of n rows) k)) → Stuck n rows (members s)
set_stuck n rows s f = record {
  ascends = members_ascending s;
  members = λ k. (λ m. (f k).0 ((members_in s k).0 m), λ d. (members_in s k).1 ((f k).1 d));
}

module _ (n : ℕ) (rows : List ℕ) {a b : Lent} where
  judged_so : (c : Result Unit Refusal) (t : List ℕ) → check_of n rows ≡ c → Answers (Says (judged n rows c)) t → Wrote a b t → Gave (input_is n rows) a b
  judged_so c t e h w = record { answer = t; answers = subst (λ (x : Result Unit Refusal). Answers (Says (judged n rows x)) t) (sym e) h; wrote = w }

  module _ (x : Result Set Refusal) (says : FoundSays n rows x) where
    pub graph_refused : {r : Refusal} → x ≡ Err r → Wrote a b (refusal_line (Wrong-as-Refused r)) → Gave (input_is n rows) a b
    unfolding Answers
    graph_refused {r} e = judged_so (Err r) (refusal_line (Wrong-as-Refused r)) (subst (FoundSays n rows) e says) refl

    pub graph_listed : {s : Set} → x ≡ Ok s → Wrote a b (node_lines (members (num s))) → Gave (input_is n rows) a b
    unfolding Answers
    graph_listed {s} e =
        let p = subst (FoundSays n rows) e says in
        judged_so (Ok tt) (node_lines (members (num s))) p.0 (members (num s), set_stuck n rows (num s) p.1, refl)

-- ---- a graph that a file says is not refused
module _ (n : ℕ) (rows : List ℕ) where
  same_graph : {m : ℕ} {l : List ℕ} → Graph m l ≡ Graph n rows → (m ≡ n) × (l ≡ rows)
  same_graph e = (cc e, cc e)

  judged_accepted : (m : ℕ) (l : List ℕ) (c : Result Unit Refusal) → check_of m l ≡ c → judged m l c ≡ Graph n rows → check_of n rows ≡ Ok tt
  judged_accepted m l (Err r) f e = absurd (let z : ◌≡◌ {A = ℕ} 0 1 = cc e in omega arith)
  judged_accepted m l (Ok tt) f e = let s = same_graph e in sym (ap₂ check_of s.0 s.1) ∙ f

  said_accepted : (m : Meant) → said_of m ≡ Graph n rows → check_of n rows ≡ Ok tt
  said_accepted (Broken line) e = absurd (let z : ◌≡◌ {A = ℕ} 0 1 = cc e in omega arith)
  said_accepted (Rows rs) e = judged_accepted (length rs) (flat rs) _ refl e

  pub read_accepted : (bytes : List ℕ) → read_of bytes ≡ Graph n rows → check_of n rows ≡ Ok tt
  unfolding read_of
  read_accepted bytes = said_accepted (meant_by bytes)

-- ---- what the reader said
record OfGraph (s : Said) (f : File) : Type 0 where
  n : ℕ
  rows : List ℕ
  said : s ≡ Graph n rows
  count : f.nodes ≡ n
  stored : f.rows ≡ sets zeros 0 rows

of_wrong : (s : Said) (w : Wrong) → file_said s ≡ Err w → Answers (Says s) (refusal_line w)
unfolding file_said no_graph Answers
of_wrong (Line l) w e = let same : w ≡ Wrong-as-Line l = cc e in ap refusal_line same
of_wrong (Refused r) w e = let same : w ≡ Wrong-as-Refused r = cc e in ap refusal_line same
of_wrong (Graph n rows) w e = cc e

of_graph : (s : Said) (f : File) → file_said s ≡ Ok f → OfGraph s f
unfolding file_said no_graph
of_graph (Line l) f e = cc e
of_graph (Refused r) f e = cc e
of_graph (Graph n rows) f e = record { n = n; rows = rows; said = refl; count = cc e; stored = cc e }

-- ---- a file
module _ (bytes : List ℕ) where
  module _ {a b : Lent} where
    answered : {i : Input} → i ≡ input_of bytes → Gave i a b → Gave (input_of bytes) a b
    answered e g = subst (λ (i : Input). Gave i a b) e g

    pub too_long : longest < length bytes → Wrote a b (refused_line 21 0) → Gave (input_of bytes) a b
    unfolding input_of Answers
    too_long h w = answered (at_true _ (lt-ltb _ _ h) refl) (record { answer = refused_line 21 0; answers = refl; wrote = w })

  module _ {x : Result File Wrong} (read : x ≡ file_said (read_of bytes)) where
    says : length bytes ≤ longest → {s : Said} → read_of bytes ≡ s → Says s ≡ input_of bytes
    unfolding input_of
    says h e = at_false TooLong (le-ltb _ _ h) (ap Says (sym e))

    pub file_wrong : length bytes ≤ longest → {w : Wrong} → x ≡ Err w → {a b : Lent} → Wrote a b (refusal_line w) → Gave (input_of bytes) a b
    file_wrong h {w} e k = answered (says h refl) (record { answer = refusal_line w; answers = of_wrong (read_of bytes) w (sym read ∙ e); wrote = k })

    module _ {f : File} (e : x ≡ Ok f) where
      graph : OfGraph (read_of bytes) f
      graph = of_graph (read_of bytes) f (sym read ∙ e)

      accepted : check_of graph.n graph.rows ≡ Ok tt
      accepted = read_accepted graph.n graph.rows bytes graph.said

      shaped : Shaped graph.n graph.rows
      shaped = accepted_shaped graph.n graph.rows accepted

      pub few_nodes : f.nodes ≤ places
      few_nodes = omega (arith, graph.count, shaped.0)

      rows_taken : take (f.nodes * row_size) f.rows ≡ graph.rows
      rows_taken =
          let all : f.nodes * row_size ≡ length graph.rows = omega (arith, graph.count, shaped.1) in
          ap (take (f.nodes * row_size)) graph.stored
          ∙ front_taken zeros graph.rows all (omega (arith, all, few_nodes, length-replicate {A = ℕ} numbers 0))

      -- what the reader hands over of a graph is this graph
      pub is_graph : read_of bytes ≡ Graph f.nodes (take (f.nodes * row_size) f.rows)
      is_graph = graph.said ∙ sym (ap₂ Graph graph.count rows_taken)

      pub file_graph : length bytes ≤ longest → {a b : Lent} → Gave (input_is f.nodes (take (f.nodes * row_size) f.rows)) a b → Gave (input_of bytes) a b
      file_graph h =
          answered
          (ap₂ input_is graph.count rows_taken
          ∙ ap (λ (c : Result Unit Refusal). Says (judged graph.n graph.rows c)) accepted
          ∙ says h graph.said)
