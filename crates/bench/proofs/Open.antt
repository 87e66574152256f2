-- The definitions of this crate, and of those below, opened together, for what is computed with them. Assumes nothing.
use Rattle.lent.proofs.Open.{open_lent}
use Rattle.bench.specs.Bench.{room_of}
use Rattle.bench.specs.Strange.{strange_record_on, strange_message_on, strange_records, strange_messages, strange_bench}
use Rattle.bench.specs.Steps.{join, open_at, arrive_at, deliver_at, take_step, step_on}
use Rattle.bench.specs.Runs.{run_of}

unfoldable pub open_bench : Unit {0}
unfolding open_lent room_of strange_record_on strange_message_on strange_records strange_messages strange_bench join open_at arrive_at deliver_at take_step step_on run_of
open_bench = tt
