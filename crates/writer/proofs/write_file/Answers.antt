-- `write_file` meets its contract. Assumes nothing.
use mathlib.Core.Path.{sym, ◌∙◌}
use Rattle.std.proofs.lemmas.Result.{err_from_is_err_and}
use lib.Seq.{length-take-le}
use Rattle.writer.proofs.Settle.{graph_refused, made_inside, made_length, room_short, room_enough, file_written}
use Rattle.writer.proofs.write_file.Goals as goal

pub returns-in_err-graph : goal.returns-in_err-graph
returns-in_err-graph c =
    let p = err_from_is_err_and c.from_residual.result c.from_residual.ensures.1 in
    rw (p.1, p.2) (graph_refused _ _ _ c.in_err-graph.ensures)

pub returns-in_err-refused_if : goal.returns-in_err-refused_if
returns-in_err-refused_if c =
    let e = c.in_ok-graph.ensures in
    let p = err_from_is_err_and c.from_residual-in_err-refused_if.result c.from_residual-in_err-refused_if.ensures.1 in
    rw (p.1, p.2) (room_short _ _ _ e.0 c.file_room-file.ensures _ _ (rw (e.1, e.2) at c.make_file-end.ensures) (sym c.refused_if.ensures ∙ c.in_err-refused_if.was))

pub slice_bounds-file-end : goal.slice_bounds-file-end
slice_bounds-file-end c = made_inside _ _ _ _ _ c.make_file-end.ensures

pub slice_bounds-copy_from_slice-end-3 : goal.slice_bounds-copy_from_slice-end-3
slice_bounds-copy_from_slice-end-3 c = made_length _ _ _ _ _ c.make_file-end.ensures

pub copy_from_slice-requires : goal.copy_from_slice-requires
copy_from_slice-requires c = length-take-le _ _ (room_enough _ _ (sym c.refused_if.ensures ∙ c.in_ok-refused_if.was)) ∙ made_length _ _ _ _ _ c.make_file-end.ensures

pub returns : goal.returns
returns c =
    let e = c.in_ok-graph.ensures in
    file_written _ _ _ e.0 c.file_room-file.ensures _ _ (rw (e.1, e.2) at c.make_file-end.ensures) (sym c.refused_if.ensures ∙ c.in_ok-refused_if.was) c.copy_from_slice.ensures.after
