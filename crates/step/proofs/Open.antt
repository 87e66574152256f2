-- The definitions of this crate, and of those below, opened together, for what is computed with them. Assumes nothing.
use Rattle.records.proofs.Open.{open_records}
use Rattle.waits.proofs.Open.{open_waits}
use Rattle.step.specs.Step.{acked, complete, become_free, be_called, on_notify, on_grant, owed, verdict_of, settle, open_round, stray, take, arrive, receive}
use Rattle.step.specs.Letters.{letters_of}

unfoldable pub open_step : Unit {0}
unfolding open_records open_waits acked complete become_free be_called on_notify on_grant owed verdict_of settle open_round stray take arrive receive letters_of
open_step = tt
