-- A controller by itself does what its node on a good bench does: there it is told nothing that it would refuse. Assumes nothing.
use mathlib.Core.Path.{◌≡◌}
use mathlib.Core.Bool.{false}
use mathlib.Core.List.{List}
use Prim.Native.Nat.{ℕ, ◌≤◌, ◌<◌}
use lib.ListN.{get_or}
use Rattle.lemmas.proofs.Tests.{or_left_false}
use Rattle.records.specs.Rounds.{last_round}
use Rattle.records.specs.Messages.{strange_message}
use Rattle.records.specs.Records.{State, strange_record}
use Rattle.waits.specs.Waits.{in_of}
use Rattle.waits.specs.Rows.{waits_of}
use Rattle.step.specs.Step.{seen_in, open_round, receive}
use Rattle.node.specs.Calls.{open_of, deliver_of}
use Rattle.lent.specs.Kept.{state_at}
use Rattle.lent.specs.Coded.{message_of}
use Rattle.bench.specs.Bench.{Bench}
use Rattle.bench.specs.Strange.{strange_message_on, Good, strange_record_on}
use Rattle.bench.specs.Steps.{letter_at}
use Rattle.bench.proofs.Sound.{Sound, good_sound, sent_fine}
use Rattle.demands.specs.Alone.{OwnRow, Alone}
use Rattle.demands.proofs.Heard.{all_stand}
use Rattle.demands.proofs.AtOnce.{of_controller}
use Rattle.demands.proofs.Controller.{opens, takes}

module _ (n : ℕ) (rows : List ℕ) (b : Bench) (good : Good n rows b) (i : ℕ) (row : List ℕ) (told : OwnRow n rows i row) where
  abbrev s : State
  s = state_at b.records i

  sound : Sound n rows b
  sound = good_sound n rows b good

  -- its record can be, and so can every message sent
  record_fine : strange_record n s ≡ false
  unfolding strange_record_on
  record_fine = or_left_false (strange_record n s) _ (sound.kept i told.0)

  message_fine : (k : ℕ) → k < b.sent → strange_message n (message_of (get_or b.messages k 0)) ≡ false
  unfolding strange_message_on
  message_fine k sent = or_left_false (strange_message n (message_of (get_or b.messages k 0))) _ (sent_fine n rows b sound k sent)

  opens_there : (round : ℕ) → s.round < round → round ≤ last_round → open_of n i row (in_of (waits_of n rows) i) s round ≡ open_round (seen_in (waits_of n rows) i) round
  opens_there = opens n rows sound.accepted i row told s record_fine

  takes_there : (k : ℕ) → k < b.sent
      → deliver_of n i row (in_of (waits_of n rows) i) s (message_of (get_or b.messages k 0)) ≡ receive (seen_in (waits_of n rows) i) s (letter_at b k)
  takes_there k sent = takes n rows sound.accepted i row told s record_fine (message_of (get_or b.messages k 0)) (message_fine k sent)

-- Theorem: a controller that is told its node's row and IN does what its node does.
pub alone : (n : ℕ) (rows : List ℕ) → Alone n rows
alone n rows = record {
  opens = opens_there n rows;
  delivers = takes_there n rows;
  at_once = of_controller n;
  worked = λ ok messages steps. (all_stand n rows messages ok steps).good;
}
