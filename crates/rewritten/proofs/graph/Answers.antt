-- `graph` meets its contract. Assumes nothing.
use mathlib.Core.Path.{sym}
use lib.Seq.{length-take-le}
use Rattle.std.proofs.Common.{rules}
use Rattle.text.proofs.Writing.{wrote_as, given_back}
use Rattle.rewritten.proofs.Settle.{never_refused, written_front, written_inside}
use Rattle.rewritten.proofs.graph.Goals as goal

pub returns-in_default : goal.returns-in_default
returns-in_default c = absurd (never_refused _ _ _ c.requires c.file_room-file.ensures _ _ c.write_file.ensures c.in_default.is)

pub slice_bounds-file-end : goal.slice_bounds-file-end
slice_bounds-file-end c = written_inside _ _ _ c.requires c.file_room-file.ensures _ _ c.write_file.ensures _ c.in-Ok.is

pub slice_bounds-bytes-end : goal.slice_bounds-bytes-end
slice_bounds-bytes-end c = sym (length-take-le _ _ (written_inside _ _ _ c.requires c.file_room-file.ensures _ _ c.write_file.ensures _ c.in-Ok.is))

pub returns : goal.returns
returns c =
    let file = wrote_as (written_front _ _ _ c.requires c.file_room-file.ensures _ _ c.write_file.ensures _ c.in-Ok.is) c.bytes.ensures in
    given_back c.new-out.ensures file (search rules)
