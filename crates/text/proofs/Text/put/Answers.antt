-- `put` meets its contract. Assumes nothing.
use Rattle.std.proofs.Common.{refl}
use Rattle.text.proofs.Writing.{one_placed, one_lost}
use Rattle.text.proofs.Text.put.Goals as goal

pub returns-then-self : goal.returns-then-self
returns-then-self c = record { same_room = refl; written = one_placed _ _ _ c.if-self.true }

pub returns-else-self : goal.returns-else-self
returns-else-self c = record { same_room = refl; written = one_lost _ _ _ c.if-self.false }
