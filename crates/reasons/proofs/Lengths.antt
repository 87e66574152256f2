-- How long a reason can be. Assumes nothing.
use mathlib.Core.Path.{◌≡◌}
use mathlib.Core.Bool.{true, false, ◌&&◌}
use mathlib.Core.Logic.{⊎_elim}
use mathlib.Core.List.{List, [], ◌∷◌, ◌++◌}
use Prim.Native.Nat.{ℕ, zero, suc, ◌+◌, ◌-◌, ◌≤◌, ◌<◌}
use Prim.Native.String.{String}
use native.Mathlib.Omega.{arith}
use lib.Dec.{leb, ltb, eqb}
use lib.ListN.{length, drop}
use borrow.Author.Tests.{ltb-false}
use Rattle.lemmas.proofs.Cases.{both_branches}
use Rattle.lemmas.proofs.Tests.{true_or_false}
use Rattle.nodes.specs.Words.{places}
use Rattle.waits.specs.declared.refusals.Refusal.{Refusal}
use Rattle.text.specs.Words.{word, decimal}
use Rattle.text.specs.Text.{text, write}
use Rattle.text.proofs.Writing.{write_fits}
use Rattle.text.proofs.Decimal.{decimal_two, decimal_five}
use Rattle.format.specs.Files.{Said, read_of}
use Rattle.format.specs.Files.Said.{Line as Said-as-Line, Refused, Graph}
use Rattle.lines.proofs.Lengths.{joined}
use Rattle.faults.specs.declared.flaws.Flaw.{Flaw}
use Rattle.faults.specs.declared.flaws.Flaw.TheVariants.{Missing, Empty, NoDigit, PastBits, Spaces, Strange, NoPlace, Twice, Descends}
use Rattle.faults.specs.declared.Fault.{Fault}
use Rattle.faults.specs.declared.Fault.TheVariants.{EmptyFile, Mark, NoHeader, BareLf, Semicolons, Column, MoreFields, NotNext}
use Rattle.faults.specs.Faults.{fault_of}
use Rattle.report.specs.Report.{longest, input_of}
use Rattle.report.proofs.Small.{SmallSaid, read_small}
use Rattle.report.specs.Report.Input.{TooLong, Says}
use Rattle.waits.specs.Numbers.{reason_number}
use Rattle.reasons.specs.Reasons.{longest_reason, column_name, flaw_words, of_line, fault_words, line_reason, words_in, number_table, number_words, place_words, graph_reason, reason_for, reason_of}
use Rattle.reasons.proofs.Placed.{Placed, read_placed}

abbrev AtMost : ℕ → List ℕ → Type 0
AtMost n l = length l ≤ n

column_length : (column : ℕ) → AtMost 9 (column_name column)
unfolding word
column_length zero = omega arith
column_length (suc zero) = omega arith
column_length (suc (suc zero)) = omega arith
column_length (suc (suc (suc zero))) = omega arith
column_length (suc (suc (suc (suc zero)))) = omega arith
column_length (suc (suc (suc (suc (suc zero))))) = omega arith
column_length (suc (suc (suc (suc (suc (suc zero)))))) = omega arith
column_length (suc (suc (suc (suc (suc (suc (suc c))))))) = omega arith

flaw_length : (f : Flaw) → AtMost 52 (flaw_words f)
unfolding flaw_words word
flaw_length Missing = omega arith
flaw_length Empty = omega arith
flaw_length NoDigit = omega arith
flaw_length PastBits = omega arith
flaw_length Spaces = omega arith
flaw_length Strange = omega arith
flaw_length NoPlace = let l = joined (word " has a member over ") (decimal (places - 1)) 19 2 (omega arith) (decimal_two (places - 1) (omega arith)) in omega arith
flaw_length Twice = omega arith
flaw_length Descends = omega arith

of_length : (line : ℕ) (words : List ℕ) (n : ℕ) → line < 100000 → AtMost n words → AtMost (10 + n) (of_line line words)
unfolding word
of_length line words n h l =
    joined (word "line " ++ decimal line) words 10 n (joined (word "line ") (decimal line) 5 5 (omega arith) (decimal_five line h)) l

fault_length : (line : ℕ) (f : Fault) → line < 100000 → AtMost 84 (fault_words line f)
unfolding fault_words word
fault_length line EmptyFile h = omega arith
fault_length line Mark h = let l = of_length line (word " begins with a byte-order mark, which is no part of the header") 62 h (omega arith) in omega arith
fault_length line NoHeader h = let l = of_length line (word " isn't the header node,kind,threshold,set1,set2,set3,set4") 57 h (omega arith) in omega arith
fault_length line BareLf h = let l = of_length line (word " ends in LF where CR LF is wanted") 33 h (omega arith) in omega arith
fault_length line Semicolons h = let l = of_length line (word ": its fields are separated by semicolons where commas are wanted") 64 h (omega arith) in omega arith
fault_length line (Column column f) h =
    let p : List ℕ = of_line line (word ": ") in
    let l = joined (p ++ column_name column) (flaw_words f) 21 52
    (joined p (column_name column) 12 9 (of_length line (word ": ") 2 h (omega arith)) (column_length column))
    (flaw_length f) in
    omega arith
fault_length line MoreFields h = let l = of_length line (word ": it has more than seven fields") 31 h (omega arith) in omega arith
fault_length line NotNext h =
    let p : List ℕ = of_line line (word ": its node isn't ") in
    let l = joined (p ++ decimal (line - 2)) (word ", the next one") 32 14
    (joined p (decimal (line - 2)) 27 5 (of_length line (word ": its node isn't ") 17 h (omega arith)) (decimal_five (line - 2) (omega arith)))
    (omega arith) in
    omega arith

line_length : (bytes : List ℕ) (n : ℕ) → n < 100000 → AtMost longest_reason (line_reason bytes n)
unfolding line_reason word
line_length bytes n h =
    let l = joined (fault_words n (fault_of bytes n)) (word "\n") 84 1 (fault_length n (fault_of bytes n) h) (omega arith) in
    omega arith

-- the words of a number are at most as long as the longest of the table
abbrev Short : List (ℕ × String) → Type 0
Short [] = Unit {0}
Short (e ∷ l) = AtMost 79 (word e.1) × Short l

in_length : (l : List (ℕ × String)) (last : String) (number : ℕ) → Short l → AtMost 79 (word last) → AtMost 79 (words_in l last number)
in_length [] last number s h = h
in_length (e ∷ l) last number s h = both_branches (AtMost 79) (eqb number e.0) s.0 (in_length l last number s.1 h)

number_length : (number : ℕ) → AtMost 79 (number_words number)
unfolding number_words word
number_length number =
    in_length number_table "there are more than 512 edges" number
    (omega arith, (omega arith, (omega arith, (omega arith, (omega arith, (omega arith, (omega arith, tt)))))))
    (omega arith)

place_length : (number row : ℕ) → row < places → AtMost 8 (place_words number row)
unfolding place_words word
place_length number row h =
    both_branches (AtMost 8) (leb 2 number && leb number 7)
    (joined (word "row " ++ decimal row) (word ": ") 6 2 (joined (word "row ") (decimal row) 4 2 (omega arith) (decimal_two row (omega arith))) (omega arith))
    (omega arith)

graph_length : (r : Refusal) → r.row.0 < places → AtMost longest_reason (graph_reason r)
unfolding graph_reason word
graph_length r h =
    let p : List ℕ = place_words (reason_number r.reason) r.row.0 in
    let l = joined (p ++ number_words (reason_number r.reason)) (word "\n") 87 1
    (joined p (number_words (reason_number r.reason)) 8 79 (place_length (reason_number r.reason) r.row.0 h) (number_length (reason_number r.reason)))
    (omega arith) in
    omega arith

-- ---- a reason
for_length : (bytes : List ℕ) (s : Said) → SmallSaid s → Placed s → AtMost longest_reason (reason_for bytes (Says s))
unfolding reason_for
for_length bytes (Said-as-Line n) h p = line_length bytes n h
for_length bytes (Refused r) h p = graph_length r p
for_length bytes (Graph n rows) h p = omega arith

long_length : (bytes : List ℕ) → AtMost longest_reason (reason_for bytes TooLong)
unfolding reason_for word
long_length bytes = omega arith

pub reason_length : (bytes : List ℕ) → length (reason_of bytes) ≤ longest_reason
unfolding reason_of input_of
reason_length bytes =
    ⊎_elim
    (λ (e : ltb longest (length bytes) ≡ true). rw e (long_length bytes))
    (λ (e : ltb longest (length bytes) ≡ false). rw e (for_length bytes (read_of bytes) (read_small bytes (ltb-false longest (length bytes) e)) (read_placed bytes)))
    (true_or_false (ltb longest (length bytes)))

-- so in that many bytes it stands whole
pub reason_whole : (bytes lent : List ℕ) → longest_reason ≤ length lent
    → write (text lent 0) (reason_of bytes) ≡ text (reason_of bytes ++ drop (length (reason_of bytes)) lent) (length (reason_of bytes))
reason_whole bytes lent h = write_fits lent (reason_of bytes) (omega (arith, reason_length bytes))
