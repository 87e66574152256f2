-- Small cases, computed. Assumes nothing.
use mathlib.Core.Path.{◌≡◌, refl}
use mathlib.Core.List.{List, [], ◌∷◌, ◌++◌}
use mathlib.Core.Option.{none, some}
use Prim.Native.Nat.{ℕ}
use Rattle.text.specs.Words.{word}
use Rattle.format.specs.Cut.{comma, pieces, lines_of}
use Rattle.format.specs.Fields.{number_of, set_in}
use Rattle.format.specs.Files.{read_of}
use Rattle.format.specs.Files.Said.{Line, Refused, Graph}
use Rattle.format.specs.Written.{file_of}
use Rattle.format.proofs.Open.{open_format}
use Rattle.waits.specs.declared.refusals.Reason.TheVariants.{WrongCount, StrangeKind}

-- ---- cut
two_commas : pieces comma (word "1,,23") ≡ word "1" ∷ [] ∷ word "23" ∷ []
unfolding open_format
two_commas = refl

-- a bare LF or CR ends no line, and behind the last end is no line
only_both : lines_of (word "a\nb\rc\r\n\r\nd\r\n") ≡ word "a\nb\rc" ∷ [] ∷ word "d" ∷ []
unfolding open_format
only_both = refl

-- ---- fields
no_number_lem : number_of [] ≡ none
unfolding open_format
no_number_lem = refl

leading_zeros : number_of (word "00000000000000000000000018446744073709551615") ≡ some 18446744073709551615
unfolding open_format
leading_zeros = refl

past_it : number_of (word "18446744073709551616") ≡ none
unfolding open_format
past_it = refl

nobody : set_in [] ≡ some 0
unfolding open_format
nobody = refl

three_members : set_in (word "0 2 63") ≡ some 9223372036854775813
unfolding open_format
three_members = refl

one_too_large : set_in (word "0 2 64") ≡ none
unfolding open_format
one_too_large = refl

equal_members : set_in (word "2 2") ≡ none
unfolding open_format
equal_members = refl

two_spaces : set_in (word "1  2") ≡ none
unfolding open_format
two_spaces = refl

-- ---- files
abbrev header : List ℕ
header = word "node,kind,threshold,set1,set2,set3,set4\r\n"

-- the paper's case 4
abbrev case_4 : List ℕ
case_4 = header ++ word "0,1,1,1,,,\r\n1,1,1,0,,,\r\n"

rows_4 : List ℕ
rows_4 = 1 ∷ 1 ∷ 2 ∷ 0 ∷ 0 ∷ 0 ∷ 1 ∷ 1 ∷ 1 ∷ 0 ∷ 0 ∷ 0 ∷ []

read_4 : read_of case_4 ≡ Graph 2 rows_4
unfolding open_format rows_4
read_4 = refl

written_4 : file_of 2 rows_4 ≡ case_4
unfolding open_format rows_4
written_4 = refl

-- quoted, with zeros in front, and without the last end
read_so : read_of (word "node,\"kind\",threshold,set1,set2,set3,\"set4\"\r\n00,1,\"1\",\"01\",\"\",,\r\n1,1,1,0,,,") ≡ Graph 2 rows_4
unfolding open_format rows_4
read_so = refl

-- a line is judged before the kind of another
line_first : read_of (header ++ word "0,7,0,,,,\r\n1,0,0,,,\r\n") ≡ Line 3
unfolding open_format
line_first = refl

kind_later : read_of (header ++ word "0,7,0,,,,\r\n1,0,0,,,,\r\n") ≡ Refused (record { reason = StrangeKind; row = record { 0 = 0 } })
unfolding open_format
kind_later = refl

-- ---- which line
nothing_at_all : read_of [] ≡ Line 1
unfolding open_format
nothing_at_all = refl

header_alone : read_of (word "node,kind,threshold,set1,set2,set3,set4") ≡ Refused (record { reason = WrongCount; row = record { 0 = 0 } })
unfolding open_format
header_alone = refl

blank_at_end : read_of (header ++ word "0,0,0,,,,\r\n\r\n") ≡ Line 3
unfolding open_format
blank_at_end = refl
