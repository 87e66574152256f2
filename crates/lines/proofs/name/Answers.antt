-- `name` meets its contract. Assumes nothing.
use native.Mathlib.Omega.{arith}
use Rattle.std.proofs.lemmas.Bool.Decides.{nat_tests}
use Rattle.text.specs.Words.{word}
use Rattle.text.proofs.Writing.{wrote_then, wrote_as}
use Rattle.lines.specs.Lines.{name_of}
use Rattle.lines.proofs.name.Goals as goal

pub returns-in_default : goal.returns-in_default
unfolding name_of word
returns-in_default c = wrote_as (grind (arith, nat_tests)) (wrote_then c.bytes-in_default.ensures c.field.ensures)
