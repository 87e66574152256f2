-- `row` meets its contract. Assumes nothing.
use Rattle.reader.proofs.Rows.{row_fields, row_node, row_is}
use Rattle.reader.proofs.lines.row.Goals as goal
use Rattle.reader.proofs.lines.row.Goals.{then-fourth-line-via-then-fourth-line, then-fourth-line-via-else-fourth-line+then-node-k}

pub returns-then-fourth-line : goal.returns-then-fourth-line
returns-then-fourth-line c =
    elim c.then-fourth-line.branch [
      | then-fourth-line-via-then-fourth-line w ↦ row_fields _ _ c.number_at-node.ensures c.number_at-kind.ensures c.number_at-threshold.ensures c.set_at-first.ensures c.set_at-second.ensures c.set_at-third.ensures c.set_at-fourth.ensures w.if-fourth-line.true
      | then-fourth-line-via-else-fourth-line+then-node-k w ↦ row_node _ _ c.number_at-node.ensures c.number_at-kind.ensures c.number_at-threshold.ensures c.set_at-first.ensures c.set_at-second.ensures c.set_at-third.ensures c.set_at-fourth.ensures w.if-node-k.true
    ]

pub returns : goal.returns
returns c = row_is _ _ c.number_at-node.ensures c.number_at-kind.ensures c.number_at-threshold.ensures c.set_at-first.ensures c.set_at-second.ensures c.set_at-third.ensures c.set_at-fourth.ensures c.if-fourth-line.false c.if-node-k.false
