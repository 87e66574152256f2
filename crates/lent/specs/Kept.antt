-- Records in a lent list: seven numbers a node. Assumes nothing.
use Rattle.std.specs.Prelude.{cond, List, [], ◌∷◌, ℕ, ◌+◌, ◌*◌, ltb, get_or}
use Rattle.std.proofs.lemmas.List.Edits.{sets}
use Rattle.nodes.specs.Words.{places}
use Rattle.records.specs.declared.records.Record.{Record}
use Rattle.records.specs.Causes.{cause_number}
use Rattle.records.specs.Records.{State, state_of}

-- how many numbers a record has
abbrev pub record_size : ℕ
record_size = 7

-- how many the records of the largest graph have: 448
abbrev pub most_records : ℕ
most_records = places * record_size

-- how many numbers the records of a graph have; one of more nodes than a set has places for is refused, whatever its records are
unfoldable pub record_numbers : ℕ → ℕ
record_numbers n = cond (ltb places n) 0 (n * record_size)

-- the record of node i: its round, its call, its freed, and the senders of NOTIFY, GRANT, ACK and DONE
unfoldable pub record_at : List ℕ → ℕ → Record
record_at records i = record {
  round = record { 0 = get_or records (i * record_size) 0 };
  call = record { 0 = get_or records (i * record_size + 1) 0 };
  freed = record { 0 = get_or records (i * record_size + 2) 0 };
  notify = record { 0 = get_or records (i * record_size + 3) 0 };
  grant = record { 0 = get_or records (i * record_size + 4) 0 };
  ack = record { 0 = get_or records (i * record_size + 5) 0 };
  done = record { 0 = get_or records (i * record_size + 6) 0 };
}

-- what it says
unfoldable pub state_at : List ℕ → ℕ → State
state_at records i = state_of (record_at records i)

-- the seven numbers of what a record says
abbrev pub state_numbers : State → List ℕ
state_numbers s = s.round ∷ cause_number s.call ∷ cause_number s.freed ∷ s.notify ∷ s.grant ∷ s.ack ∷ s.done ∷ []

-- the list with another record for node i
unfoldable pub put_state : List ℕ → ℕ → State → List ℕ
put_state records i s = sets records (i * record_size) (state_numbers s)
