-- `row_text` meets its contract. Assumes nothing.
use mathlib.Core.Path.{sym}
use mathlib.Core.List.{append-nil}
use Rattle.text.proofs.Writing.{wrote_as, wrote_then}
use Rattle.format.specs.Cut.{behind, joined}
use Rattle.format.specs.Written.{row_text}
use Rattle.writer.proofs.row_text.Goals as goal

pub returns : goal.returns
unfolding row_text joined behind
returns c =
    let fourth = wrote_as (sym (append-nil _)) c.set_field-4.ensures in
    let sets = wrote_then c.set_field.ensures (wrote_then c.set_field-2.ensures (wrote_then c.set_field-3.ensures fourth)) in
    let numbers = wrote_then c.number.ensures (wrote_then c.after.ensures (wrote_then c.after-2.ensures sets)) in
    wrote_then c.bytes.ensures numbers
