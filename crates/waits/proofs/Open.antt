-- The definitions of this crate, and of those below, opened together, for what is computed with them. Assumes nothing.
use Rattle.nodes.proofs.Open.{open_nodes}
use Rattle.waits.specs.Waits.{in_of, edges_to, edges}
use Rattle.waits.specs.Deadlocked.{outside, passes}
use Rattle.waits.specs.Rows.{row_at, row_numbers, flat, rows_at, rows_of, later_of, out_of, lies_in, holds_of}
use Rattle.waits.specs.Numbers.{strange_count, wrong_count, strange_kind, strange_member, waits_on_itself, wrong_threshold, extra_set, bad_sets, many_edges, check_row_of, check_of}

unfoldable pub open_waits : Unit {0}
unfolding open_nodes in_of edges_to edges outside passes row_at row_numbers flat rows_at rows_of later_of out_of lies_in holds_of strange_count wrong_count strange_kind strange_member waits_on_itself wrong_threshold extra_set bad_sets many_edges check_row_of check_of
open_waits = tt
