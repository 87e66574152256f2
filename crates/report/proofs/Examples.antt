-- Small cases, computed: refusals, and the deadlocked nodes of small graphs. Assumes nothing.
use mathlib.Core.Path.{◌≡◌, refl, subst}
use mathlib.Core.List.{List, [], ◌++◌}
use Prim.Native.Nat.{ℕ, ◌<◌}
use lib.ListN.{length}
use borrow.Author.Tests.{lt-ltb}
use Rattle.lemmas.proofs.Cases.{at_true}
use Rattle.nodes.specs.Sets.{members}
use Rattle.std.specs.Prelude.{Ok}
use Rattle.waits.specs.Rows.{waits_of}
use Rattle.waits.specs.Numbers.{check_of}
use Rattle.waits.specs.Mornings.{fourth_rows, fifth_rows}
use Rattle.deadlock.specs.Sweeps.{stuck}
use Rattle.deadlock.proofs.Answers.{found}
use Rattle.deadlock.proofs.Open.{open_deadlock}
use Rattle.text.specs.Words.{word}
use Rattle.lines.specs.Lines.{field, refused_line}
use Rattle.format.proofs.Open.{open_format}
use Rattle.report.specs.Report.{longest, Input, input_of, Stuck, node_lines, Answers}
use Rattle.report.specs.Report.Input.{Says}
use Rattle.report.proofs.Settle.{set_stuck}

abbrev header : List ℕ
header = word "node,kind,threshold,set1,set2,set3,set4\r\n"

-- ---- refusals
empty : Answers (input_of []) (word "refused 20 1\n")
unfolding open_format field refused_line input_of Answers
empty = refl

-- its second row has a field too few
line_broken : Answers (input_of (header ++ word "0,7,0,,,,\r\n1,0,0,,,\r\n")) (word "refused 20 3\n")
unfolding open_format field refused_line input_of Answers
line_broken = refl

-- the row of node 1 has a kind that there isn't
kind_strange : Answers (input_of (header ++ word "0,0,0,,,,\r\n1,7,0,,,,\r\n")) (word "refused 2 1\n")
unfolding open_format field refused_line input_of Answers
kind_strange = refl

too_long : (bytes : List ℕ) → longest < length bytes → Answers (input_of bytes) (word "refused 21 0\n")
unfolding open_format field refused_line input_of Answers
too_long bytes h = subst (λ (i : Input). Answers i (word "refused 21 0\n")) (at_true (Says _) (lt-ltb longest (length bytes) h) refl) refl

-- ---- graphs
reduced : (n : ℕ) (rows : List ℕ) → check_of n rows ≡ Ok tt → Stuck n rows (members (stuck (waits_of n rows)))
reduced n rows ok = set_stuck n rows (stuck (waits_of n rows)) (found n rows ok (stuck (waits_of n rows)) refl)

-- the paper's case 4: each waits on the other
case_4 : Answers (input_of (header ++ word "0,1,1,1,,,\r\n1,1,1,0,,,\r\n")) (word "0\n1\n")
unfolding open_format open_deadlock input_of node_lines Answers
case_4 = (members (stuck (waits_of 2 fourth_rows)), reduced 2 fourth_rows refl, refl)

-- case 5: nobody waits
case_5 : Answers (input_of (header ++ word "0,0,0,,,,\r\n")) []
unfolding open_format open_deadlock input_of node_lines Answers
case_5 = (members (stuck (waits_of 1 fifth_rows)), reduced 1 fifth_rows refl, refl)
