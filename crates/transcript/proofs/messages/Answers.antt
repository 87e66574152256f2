-- `messages` meets its contract. Assumes nothing.
use Rattle.text.proofs.Writing.{left_next, left_none}
use Rattle.transcript.proofs.Told.{message_next, message_none}
use Rattle.transcript.proofs.messages.Goals as goal

pub loop-k-preserved : goal.loop-k-preserved
loop-k-preserved c = left_next c.loop-k.invariant c.message.ensures (message_next _ _ c.loop-k-test.true c.message_of.ensures)

pub returns : goal.returns
returns c = left_none c.loop-k.invariant (message_none _ _ c.loop-k-test.false)
