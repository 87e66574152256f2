-- `bytes` meets its contract. Assumes nothing.
use mathlib.Core.Path.{sym}
use Rattle.std.proofs.lemmas.List.{take_more}
use Rattle.text.proofs.Writing.{wrote_none, wrote_then, wrote_as}
use Rattle.text.proofs.Text.bytes.Goals as goal

pub loop-byte-init : goal.loop-byte-init
loop-byte-init c = wrote_none _

pub loop-byte-preserved : goal.loop-byte-preserved
loop-byte-preserved c = wrote_as (sym (take_more _ _ 0 c.loop-byte-test.true)) (wrote_then c.loop-byte.invariant c.put.ensures)
