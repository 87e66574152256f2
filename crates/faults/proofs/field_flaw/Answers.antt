-- `field_flaw` meets its contract. Assumes nothing.
use Rattle.faults.proofs.Walking.{field_number, field_set}
use Rattle.faults.proofs.field_flaw.Goals as goal

pub returns-then-column-lt-NUMBERS : goal.returns-then-column-lt-NUMBERS
returns-then-column-lt-NUMBERS c = field_number _ _ c.bare-bared.ensures c.if-column-lt-NUMBERS.true c.number_flaw.ensures

pub returns : goal.returns
returns c = field_set _ _ c.bare-bared.ensures c.if-column-lt-NUMBERS.false c.set_flaw.ensures
