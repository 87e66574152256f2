-- `reason` meets its contract. Assumes nothing.
use mathlib.Core.Path.{ap, ◌∙◌}
use Rattle.std.specs.Prelude.{Err}
use Rattle.text.specs.Words.{word}
use Rattle.text.proofs.Writing.{wrote_none, wrote_as}
use Rattle.reasons.proofs.Said.{long_said, said_as}
use Rattle.reasons.proofs.reason.Goals as goal

pub returns-then-file-gt-BYTES : goal.returns-then-file-gt-BYTES
unfolding word
returns-then-file-gt-BYTES c = wrote_as (long_said _ c.if-file-gt-BYTES.true) c.bytes.ensures

pub returns-in-Ok : goal.returns-in-Ok
returns-in-Ok c = wrote_as (said_as _ c.if-file-gt-BYTES.false c.read_file.ensures c.in-Ok.is) (wrote_none _)

pub returns-in-Err-Line : goal.returns-in-Err-Line
returns-in-Err-Line c = wrote_as (said_as _ c.if-file-gt-BYTES.false c.read_file.ensures (c.in-Err-Line.is ∙ ap Err c.in-Err-Line.field-0-is)) c.line_reason.ensures

pub returns-in-Err-Refused : goal.returns-in-Err-Refused
returns-in-Err-Refused c = wrote_as (said_as _ c.if-file-gt-BYTES.false c.read_file.ensures (c.in-Err-Refused.is ∙ ap Err c.in-Err-Refused.field-0-is)) c.graph_reason.ensures
