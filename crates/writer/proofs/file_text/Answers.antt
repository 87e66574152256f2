-- `file_text` meets its contract. Assumes nothing.
use mathlib.Core.Path.{refl}
use Rattle.text.specs.Words.{word}
use Rattle.text.proofs.Writing.{left_all, left_next, left_none}
use Rattle.format.specs.Cut.{behind, joined}
use Rattle.format.specs.Written.{header_text}
use Rattle.writer.proofs.Parts.{header_first, row_next, end_last}
use Rattle.writer.proofs.file_text.Goals as goal

pub loop-k-init : goal.loop-k-init
unfolding header_text word joined behind
loop-k-init c = left_next (left_all _ _) c.bytes.ensures (header_first _ _)

pub loop-k-preserved : goal.loop-k-preserved
loop-k-preserved c = left_next c.loop-k.invariant c.row_text.ensures (row_next _ _ _ c.loop-k-test.true c.row.ensures)

pub returns : goal.returns
returns c = left_none (left_next c.loop-k.invariant c.bytes-2.ensures (end_last _ _ _ c.loop-k-test.false)) refl
