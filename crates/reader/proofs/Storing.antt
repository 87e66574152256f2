-- The lines of a file, as they are read and stored one after the other; and what comes of the whole file. Assumes nothing.
use mathlib.Core.Path.{◌≡◌, refl, sym, ap, ap₂, ◌∙◌, subst}
use mathlib.Core.Bool.{true, false, cond, not, ◌||◌}
use mathlib.Core.Logic.{⊎_elim}
use mathlib.Core.List.{List, [], ◌∷◌, ◌++◌, append_assoc, append-nil}
use mathlib.Core.Option.{Option as Maybe, none, some}
use Prim.Native.Nat.{ℕ, suc, ◌+◌, ◌*◌, ◌≤◌, ◌<◌}
use native.Mathlib.Numerals.{add-one}
use native.Mathlib.Omega.{arith}
use lib.Dec.{eqb, ltb}
use lib.ListN.{length, take, drop, length-append, length-drop, length-replicate}
use lib.Seq.{sets}
use borrow.Author.Tests.{eqb-false, ne_eqb, lt-ltb, le-ltb, ltb-true, ltb-false}
use Rattle.std.specs.Prelude.{Some, None, Result, Ok, Err}
use Rattle.lemmas.proofs.Cases.{at_true, at_false}
use Rattle.lemmas.proofs.Tests.{or_intro_left, or_intro_right, true_or_false}
use Rattle.lemmas.proofs.Stores.{sets_append, sets_out, front_taken}
use Rattle.nodes.specs.Words.{places}
use Rattle.waits.specs.declared.rows.Row.{Row}
use Rattle.waits.specs.declared.refusals.Refusal.{Refusal}
use Rattle.waits.specs.Rows.{row_size, row_numbers, flat}
use Rattle.waits.specs.Numbers.{strange_count, wrong_count, check_of}
use Rattle.waits.proofs.Flat.{flat_length, flat_snoc}
use Rattle.format.specs.Cut.{lines_of}
use Rattle.format.specs.Files.{is_header, row_of, Meant, row_then, rows_from, under_header, meant_by, judged, said_of, read_of}
use Rattle.format.specs.Files.Meant.{Broken, Rows}
use Rattle.format.specs.Files.Said.{Line}
use Rattle.format.proofs.Open.{open_format}
use Rattle.fields.specs.Ends.{up_to_end}
use Rattle.fields.proofs.Finding.{lines_next, lines_none}
use Rattle.reader.specs.Answers.{row_said, numbers, LinesSay, zeros, file_said, checked_as, graph_judged}
use Rattle.waits.specs.declared.refusals.Reason.TheVariants.{WrongCount}

-- ---- what an answer tells of a line
told_none : (o : Maybe Row) → None ≡ row_said o → o ≡ none
unfolding row_said
told_none none e = refl
told_none (some r) e = absurd cc

told_row : {r : Row} (o : Maybe Row) → Some r ≡ row_said o → o ≡ some r
unfolding row_said
told_row none e = absurd cc
told_row (some q) e = cc

-- ---- rows that come behind others
pub behind : List Row → Meant → Meant
behind d (Broken line) = Broken line
behind d (Rows rs) = Rows (d ++ rs)

behind_none : (m : Meant) → m ≡ behind [] m
unfolding behind
behind_none (Broken line) = refl
behind_none (Rows rs) = refl

behind_one : (d : List Row) (r : Row) (line : ℕ) (m : Meant) → behind d (row_then line (some r) m) ≡ behind (d ++ r ∷ []) m
unfolding behind
behind_one d r line (Broken later) = refl
behind_one d r line (Rows rs) = ap Rows (sym (append_assoc d (r ∷ []) rs))

-- ---- on the way: the rows that were read, and the lines that are left
pub record Storing (text : List ℕ) (found rows rest : List ℕ) (k : ℕ) : Type 0 where
  pub read : List Row
  pub left : rows_from 0 (lines_of text) ≡ behind read (rows_from k (lines_of rest))
  pub count : k ≡ length read
  pub stored : rows ≡ sets found 0 (flat read)
  pub few : k + length rest ≤ length text

pub storing_start : (text found : List ℕ) → Storing text found found text 0
unfolding flat
storing_start text found = record { read = []; left = behind_none _; count = refl; stored = refl; few = omega arith }

module _ (text found rows rest : List ℕ) (k : ℕ) (s : Storing text found rows rest k) where
  module _ (more : eqb (length rest) 0 ≡ false) where
    split : {o : Maybe Row} → row_of k (take (up_to_end rest) rest) ≡ o
        → rows_from 0 (lines_of text) ≡ behind s.read (row_then (k + 2) o (rows_from (suc k) (lines_of (drop (up_to_end rest + 2) rest))))
    unfolding rows_from
    split e =
        s.left ∙ ap (λ (ls : List (List ℕ)). behind s.read (rows_from k ls)) (lines_next rest more)
        ∙ ap (λ (o : Maybe Row). behind s.read (row_then (k + 2) o (rows_from (suc k) (lines_of (drop (up_to_end rest + 2) rest))))) e

    pub storing_broken : None ≡ row_said (row_of k (take (up_to_end rest) rest)) → LinesSay (rows_from 0 (lines_of text)) found rows (Err (k + 2))
    unfolding behind LinesSay
    storing_broken e = split (told_none _ e)

    pub storing_next : {r : Row} {rows' : List ℕ} → Some r ≡ row_said (row_of k (take (up_to_end rest) rest))
        → rows' ≡ sets rows (k * row_size) (row_numbers r) → Storing text found rows' (drop (up_to_end rest + 2) rest) (k + 1)
    storing_next {r} e f = record {
      read = s.read ++ r ∷ [];
      left =
          split (told_row _ e) ∙ behind_one s.read r (k + 2) (rows_from (suc k) (lines_of (drop (up_to_end rest + 2) rest)))
          ∙ ap (λ (j : ℕ). behind (s.read ++ r ∷ []) (rows_from j (lines_of (drop (up_to_end rest + 2) rest)))) (sym (add-one k));
      count = omega (arith, s.count, length-append s.read (r ∷ []));
      stored =
          f ∙ ap₂ (λ (l : List ℕ) (i : ℕ). sets l i (row_numbers r)) s.stored (let q : k * row_size ≡ 0 + length (flat s.read) = omega (arith, s.count, flat_length s.read) in q)
          ∙ sets_append (flat s.read) (row_numbers r) found 0 ∙ ap (sets found 0) (sym (flat_snoc s.read r));
      few = omega (arith, s.few, eqb-false _ _ more, length-drop (up_to_end rest + 2) rest);
    }

  pub storing_all : eqb (length rest) 0 ≡ true → LinesSay (rows_from 0 (lines_of text)) found rows (Ok k)
  unfolding behind rows_from LinesSay
  storing_all h = (
    s.read,
    s.left ∙ ap (λ (ls : List (List ℕ)). behind s.read (rows_from k ls)) (lines_none rest h) ∙ ap Rows (append-nil s.read),
    s.count,
    s.stored,
  )

-- past the rows that a graph can have nothing is stored
pub kept_out : (rows : List ℕ) (k : ℕ) (r : Row) → length rows ≡ numbers → places ≤ k → rows ≡ sets rows (k * row_size) (row_numbers r)
kept_out rows k r e h = sym (sets_out (row_numbers r) rows (k * row_size) (omega arith))

-- ---- all lines
no_header_there : is_header [] ≡ false
unfolding open_format
no_header_there = refl

-- what the first line says of the file; an empty file has none, and an empty line is no header either
first_said : (file : List ℕ)
    → meant_by file ≡ cond (is_header (take (up_to_end file) file)) (rows_from 0 (lines_of (drop (up_to_end file + 2) file))) (Broken 1)
unfolding lines_of meant_by up_to_end
first_said [] = at_false _ no_header_there refl
first_said (x ∷ l) = ap under_header (lines_next (x ∷ l) (ne_eqb _ 0 (omega arith)))

module _ (file : List ℕ) where
  pub no_header : is_header (take (up_to_end file) file) ≡ false → (found rows : List ℕ) → LinesSay (meant_by file) found rows (Err 1)
  unfolding LinesSay
  no_header e found rows = first_said file ∙ sym (at_false (rows_from 0 (lines_of (drop (up_to_end file + 2) file))) e refl)

  under : is_header (take (up_to_end file) file) ≡ true → rows_from 0 (lines_of (drop (up_to_end file + 2) file)) ≡ meant_by file
  under e = at_true (Broken 1) e refl ∙ sym (first_said file)

  pub under_header_lem : is_header (take (up_to_end file) file) ≡ true → (found rows : List ℕ) (a : Result ℕ ℕ)
      → LinesSay (rows_from 0 (lines_of (drop (up_to_end file + 2) file))) found rows a → LinesSay (meant_by file) found rows a
  unfolding LinesSay
  under_header_lem e found rows (Err line) s = sym (under e) ∙ s
  under_header_lem e found rows (Ok n) s = (s.0, sym (under e) ∙ s.1, s.2, s.3)

-- ---- the graph
one_said : (n : ℕ) (rows : List ℕ) → places < n → Err (record { reason = WrongCount; row = record { 0 = 0 } }) ≡ check_of n rows
unfolding check_of wrong_count strange_count
one_said n rows h =
    at_true _
    (or_intro_left (eqb n 0 || ltb places n) (not (eqb (length rows) (n * row_size))) (or_intro_right (eqb n 0) (ltb places n) (lt-ltb places n h)))
    refl

-- a graph of n rows, with their numbers stored as far as there are places
module _ (n : ℕ) (rows stored : List ℕ) (count : length rows ≡ n * row_size) (front : stored ≡ sets zeros 0 rows) where
  many : places < n → graph_judged n stored ≡ file_said (judged n rows (check_of n rows))
  unfolding graph_judged file_said
  many h = sym (at_true _ (lt-ltb places n h) refl) ∙ ap (λ (c : Result Unit Refusal). file_said (judged n rows c)) (one_said n rows h)

  checked_said : (c : Result Unit Refusal) → checked_as n stored c ≡ file_said (judged n rows c)
  unfolding file_said
  checked_said (Err r) = refl
  checked_said (Ok u) = λ i. Ok (record { nodes = n; rows = front i })

  few : n ≤ places → graph_judged n stored ≡ file_said (judged n rows (check_of n rows))
  unfolding graph_judged
  few h =
      sym (at_false _ (le-ltb places n h) refl)
      ∙ ap (λ (l : List ℕ). checked_as n stored (check_of n l)) (ap (take (n * row_size)) front ∙ taken)
      ∙ checked_said (check_of n rows)
    where
      taken : take (n * row_size) (sets zeros 0 rows) ≡ rows
      taken = front_taken zeros rows (sym count) (omega (arith, length-replicate {A = ℕ} numbers 0))

  judged_said : graph_judged n stored ≡ file_said (judged n rows (check_of n rows))
  judged_said =
      ⊎_elim
      (λ (t : ltb places n ≡ true). many (ltb-true places n t))
      (λ (t : ltb places n ≡ false). few (ltb-false places n t))
      (true_or_false (ltb places n))

-- ---- the file
module _ (file left : List ℕ) {a : Result ℕ ℕ} (s : LinesSay (meant_by file) zeros left a) where
  pub file_broken : (line : ℕ) → a ≡ Err line → file_said (Line line) ≡ file_said (read_of file)
  unfolding read_of LinesSay
  file_broken line e = ap (λ (m : Meant). file_said (said_of m)) (sym (subst (λ (x : Result ℕ ℕ). LinesSay (meant_by file) zeros left x) e s))

  pub file_rows : (n : ℕ) → a ≡ Ok n → graph_judged n left ≡ file_said (read_of file)
  unfolding read_of LinesSay
  file_rows n e =
      let t = subst (λ (x : Result ℕ ℕ). LinesSay (meant_by file) zeros left x) e s in
      judged_said n (flat t.0) left (omega (arith, flat_length t.0, t.2)) t.3
      ∙ ap (λ (k : ℕ). file_said (judged k (flat t.0) (check_of k (flat t.0)))) t.2
      ∙ ap (λ (m : Meant). file_said (said_of m)) (sym t.1)
