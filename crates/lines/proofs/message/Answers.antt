-- `message` meets its contract. Assumes nothing.
use Rattle.text.specs.Words.{word}
use Rattle.text.proofs.Writing.{wrote_then, wrote_as}
use Rattle.lines.specs.Lines.{message_line}
use Rattle.lines.proofs.message.Goals as goal

pub returns : goal.returns
unfolding message_line word
returns c =
    let to_kind = wrote_then (wrote_then (wrote_then c.bytes.ensures c.field.ensures) c.put.ensures) (wrote_as c.kind_name.ensures c.bytes-2.ensures) in
    wrote_then (wrote_then (wrote_then (wrote_then to_kind c.field-2.ensures) c.field-3.ensures) c.field-4.ensures) c.put-2.ensures
