-- `tell` meets its contract. Assumes nothing.
use Rattle.text.proofs.Writing.{wrote_then, wrote_as}
use Rattle.transcript.proofs.Told.{told_accepted, told_refused}
use Rattle.transcript.proofs.tell.Goals as goal

pub returns-in-Ok : goal.returns-in-Ok
returns-in-Ok c = wrote_as (told_accepted _ _ c.in-Ok.is) (wrote_then c.answers.ensures c.messages.ensures)

pub returns-in-Err : goal.returns-in-Err
returns-in-Err c = wrote_as (told_refused _ _ c.in-Err.is c.number.ensures) c.refused.ensures
