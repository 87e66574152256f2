-- The definitions of this crate, and of those below, opened together, for what is computed with them. Assumes nothing.
use Rattle.nodes.proofs.Open.{open_nodes}
use Rattle.records.specs.Rounds.{compare_of, behind, ahead, no_round, cannot_open}
use Rattle.records.specs.Messages.{strange_message}
use Rattle.records.specs.Records.{in_round, strange_set, strange_record}

unfoldable pub open_records : Unit {0}
unfolding open_nodes compare_of behind ahead no_round cannot_open strange_message in_round strange_set strange_record
open_records = tt
