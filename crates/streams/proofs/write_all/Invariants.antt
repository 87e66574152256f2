-- What was written so far stands behind what was there. Assumes nothing.
use Rattle.std.specs.Prelude.{length, take, ◌-◌, ◌≤◌, ◌+◌}
use Rattle.std.specs.Io.KnownBytes.{Appends}
use Rattle.streams.proofs.write_all.Given as goal

abbrev pub invariant-loop-done : goal.invariant-loop-done
invariant-loop-done g l = (l.done ≤ length l.text) × Appends (g.W.Write.contents l.initial.output) (g.W.Write.contents l.output) (take l.done l.text)

abbrev pub decreases-loop-done : goal.decreases-loop-done
decreases-loop-done g l = (length l.text - l.done) + l.tries
