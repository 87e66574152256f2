-- Small cases, computed. Assumes nothing.
use mathlib.Core.Path.{◌≡◌, refl}
use mathlib.Core.List.{List, ◌++◌}
use Prim.Native.Nat.{ℕ}
use Rattle.text.specs.Words.{word}
use Rattle.lines.specs.Lines.{field, refused_line}
use Rattle.format.proofs.Open.{open_format}
use Rattle.report.specs.Report.{input_of}
use Rattle.rewritten.specs.Rewritten.{written_back, rewritten_of}

abbrev header : List ℕ
header = word "node,kind,threshold,set1,set2,set3,set4\r\n"

-- quotes and leading zeros go, and the last line gets its end
plainer : rewritten_of (word "node,\"kind\",threshold,set1,set2,set3,set4\r\n00,01,\"2\",\"1 02\",,,\r\n1,0,0,,,,\r\n2,2,000,0,\"\",1,") ≡ header ++ word "0,1,2,1 2,,,\r\n1,0,0,,,,\r\n2,2,0,0,,1,\r\n"
unfolding open_format field refused_line input_of written_back rewritten_of
plainer = refl

line_refused : rewritten_of (header ++ word "0,0,0,,,,\r\n2,0,0,,,,\r\n") ≡ word "refused 20 3\n"
unfolding open_format field refused_line input_of written_back rewritten_of
line_refused = refl

graph_refused : rewritten_of (header ++ word "0,0,0,,,,\r\n1,7,0,,,,\r\n") ≡ word "refused 2 1\n"
unfolding open_format field refused_line input_of written_back rewritten_of
graph_refused = refl
