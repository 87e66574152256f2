-- `answer` meets its contract. Assumes nothing.
use Rattle.text.proofs.Writing.{wrote_as}
use Rattle.transcript.proofs.Settle.{all_fit, none_meant, some_fits, some_meant}
use Rattle.transcript.proofs.answer.Goals as goal

pub returns-in-None : goal.returns-in-None
returns-in-None c = wrote_as (none_meant _ _ _ _ _ c.parse.ensures c.in-None.is) c.no_script.ensures

pub play-requires : goal.play-requires
play-requires c = some_fits _ _ _ _ _ c.parse.ensures (all_fit 32772) (all_fit 8192) _ c.in-Some.is

pub returns-in-Some : goal.returns-in-Some
returns-in-Some c = wrote_as (some_meant _ _ _ _ _ c.parse.ensures (all_fit 32772) (all_fit 8192) _ c.in-Some.is) c.play.ensures
