-- Small cases, computed. Assumes nothing.
use mathlib.Core.Path.{◌≡◌, refl}
use mathlib.Core.List.{List, [], ◌∷◌, ◌++◌}
use Prim.Native.Nat.{ℕ}
use lib.ListN.{replicate}
use Rattle.std.specs.Prelude.{Ok, Err}
use Rattle.text.specs.Words.{word}
use Rattle.format.proofs.Open.{open_format}
use Rattle.writer.specs.Answer.{short_room, check_file_of, written_of, left_of}
use Rattle.waits.specs.declared.refusals.Reason.TheVariants.{StrangeKind, ShortRoom}

-- the paper's case 4: its file has 65 bytes
rows_4 : List ℕ
rows_4 = 1 ∷ 1 ∷ 2 ∷ 0 ∷ 0 ∷ 0 ∷ 1 ∷ 1 ∷ 1 ∷ 0 ∷ 0 ∷ 0 ∷ []

-- two bytes more are lent: they stay
roomy : written_of 2 rows_4 67 ≡ Ok 65
unfolding open_format rows_4 short_room check_file_of written_of
roomy = refl

roomy_left : left_of 2 rows_4 (replicate 67 7) ≡ word "node,kind,threshold,set1,set2,set3,set4\r\n0,1,1,1,,,\r\n1,1,1,0,,,\r\n" ++ 7 ∷ 7 ∷ []
unfolding open_format rows_4 short_room check_file_of left_of
roomy_left = refl

-- just enough
exact : written_of 2 rows_4 65 ≡ Ok 65
unfolding open_format rows_4 short_room check_file_of written_of
exact = refl

-- one byte less: 15, and nothing is written
short : written_of 2 rows_4 64 ≡ Err (record { reason = ShortRoom; row = record { 0 = 0 } })
unfolding open_format rows_4 short_room check_file_of written_of
short = refl

short_left : left_of 2 rows_4 (replicate 64 7) ≡ replicate 64 7
unfolding open_format rows_4 short_room check_file_of left_of
short_left = refl

-- the graph's number comes first
graph_first : written_of 1 (3 ∷ 0 ∷ 0 ∷ 0 ∷ 0 ∷ 0 ∷ []) 0 ≡ Err (record { reason = StrangeKind; row = record { 0 = 0 } })
unfolding open_format short_room check_file_of written_of
graph_first = refl

-- members ascend, with one space between two, and a set with no member is nothing
three_rows : left_of 3 (2 ∷ 0 ∷ 6 ∷ 0 ∷ 0 ∷ 0 ∷ 0 ∷ 0 ∷ 0 ∷ 0 ∷ 0 ∷ 0 ∷ 2 ∷ 0 ∷ 1 ∷ 2 ∷ 0 ∷ 0 ∷ []) (replicate 79 7)
    ≡ word "node,kind,threshold,set1,set2,set3,set4\r\n0,2,0,1 2,,,\r\n1,0,0,,,,\r\n2,2,0,0,1,,\r\n"
unfolding open_format short_room check_file_of left_of
three_rows = refl
