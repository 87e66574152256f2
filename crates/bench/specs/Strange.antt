-- 13: when the state of a bench is refused. Assumes nothing.
use Rattle.std.specs.Prelude.{◌≡◌, Bool, false, not, ◌||◌, List, ℕ, ◌*◌, eqb, ltb, length, take, Result}
use Rattle.std.specs.Result.{is_err}
use Rattle.lemmas.specs.Lists.{any_of, any_below}
use Rattle.records.specs.declared.messages.Message.{Message}
use Rattle.records.specs.Rounds.{last_round, ahead}
use Rattle.records.specs.Messages.{strange_message}
use Rattle.records.specs.Records.{State, strange_record}
use Rattle.waits.specs.declared.refusals.Refusal.{Refusal}
use Rattle.waits.specs.Numbers.{check_of}
use Rattle.lent.specs.Kept.{record_size, state_at}
use Rattle.lent.specs.Coded.{message_of}
use Rattle.bench.specs.Bench.{Bench, room}

-- the graph isn't accepted
abbrev pub is_refused : Result Unit Refusal → Bool
is_refused c = is_err c

-- a record with something that doesn't exist, or with a round above the highest opened
unfoldable pub strange_record_on : ℕ → ℕ → State → Bool
strange_record_on n highest s = strange_record n s || ahead s.round highest

-- a sent message with something that doesn't exist, round 0 included, or with a round above the highest opened
unfoldable pub strange_message_on : ℕ → ℕ → Message → Bool
strange_message_on n highest m = strange_message n m || ahead m.round.0 highest

-- some record of a list; some message of those sent
unfoldable pub strange_records : ℕ → ℕ → List ℕ → Bool
strange_records n highest records = any_below (λ i. strange_record_on n highest (state_at records i)) n

unfoldable pub strange_messages : ℕ → ℕ → List ℕ → Bool
strange_messages n highest sent = any_of (λ x. strange_message_on n highest (message_of x)) sent

-- the graph isn't accepted, there aren't seven numbers to each node, more is sent than the room holds, the highest round is past
-- the last, or some record or sent message can't be
unfoldable pub strange_bench : ℕ → List ℕ → Bench → Bool
strange_bench n rows b =
    is_refused (check_of n rows)
    || (not (eqb (length b.records) (n * record_size))
    || (ltb (room b) b.sent
    || (ltb last_round b.highest
    || (strange_records n b.highest b.records
    || strange_messages n b.highest (take b.sent b.messages)))))

-- it isn't refused
abbrev pub Good : ℕ → List ℕ → Bench → Type 0
Good n rows b = strange_bench n rows b ≡ false
