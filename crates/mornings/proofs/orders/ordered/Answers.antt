-- What is written stands in its room. Assumes nothing.
use Rattle.std.proofs.Common.{rules, sym, length-take-le}
use Rattle.text.proofs.Writing.{written_end, given_back}
use Rattle.mornings.proofs.orders.ordered.Goals as goal

pub slice_bounds-room-end : goal.slice_bounds-room-end
slice_bounds-room-end g c = written_end _ _ (given_back c.new-out.ensures c.messages.ensures (search rules))

pub slice_bounds-write_all-end : goal.slice_bounds-write_all-end
slice_bounds-write_all-end g c = sym (length-take-le _ _ (written_end _ _ (given_back c.new-out.ensures c.messages.ensures (search rules))))
