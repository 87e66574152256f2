-- The messages of one step, one by one. Assumes nothing.
use Rattle.std.specs.Prelude.{List, ◌++◌, map, ℕ, ◌+◌}
use Rattle.nodes.specs.Sets.{members, size}
use Rattle.records.specs.declared.messages.Kind.{Kind}
use Rattle.records.specs.declared.messages.Kind.TheVariants.{Notify, Grant, Ack, Done}
use Rattle.records.specs.Messages.{Letter}
use Rattle.step.specs.Step.{Receivers}

abbrev pub letter : Kind → ℕ → ℕ → ℕ → Letter
letter kind from to round = record { kind = kind; from = from; to = to; round = round }

-- a message of one kind to each node of a set, by ascending receiver
abbrev pub letters : Kind → ℕ → ℕ → ℕ → List Letter
letters kind from round to = map (λ k. letter kind from k round) (members to)

-- the messages of one step, in the order in which they join those sent before: NOTIFY, GRANT, ACK, DONE
unfoldable pub letters_of : ℕ → ℕ → Receivers → List Letter
letters_of from round r =
    letters Notify from round r.notify
    ++ (letters Grant from round r.grant
    ++ (letters Ack from round r.ack
    ++ letters Done from round r.done))

-- how many they are
abbrev pub how_many : Receivers → ℕ
how_many r = size r.notify + (size r.grant + (size r.ack + size r.done))
