-- When a controller refuses: 1, 9, its row's numbers, 13, and 10 for an opening. Assumes nothing.
use Rattle.std.specs.Prelude.{Bool, not, ◌||◌, List, [], ◌∷◌, ◌++◌, ℕ, eqb, length, Result}
use Rattle.nodes.specs.Sets.{no_node}
use Rattle.records.specs.declared.messages.Message.{Message}
use Rattle.records.specs.Rounds.{cannot_open}
use Rattle.records.specs.Messages.{strange_message}
use Rattle.records.specs.Records.{State, strange_set, strange_record}
use Rattle.waits.specs.declared.refusals.Refusal.{Refusal}
use Rattle.waits.specs.Rows.{row_size, row_at}
use Rattle.waits.specs.Numbers.{strange_count, Line, line, row_lines, first_said}
use Rattle.waits.specs.declared.refusals.Reason.TheVariants.{WrongCount, NoNode, CannotOpen, StrangeState}

-- 1, of one node: no graph has this many nodes, or its row isn't six numbers
unfoldable pub wrong_own : ℕ → ℕ → Bool
wrong_own n numbers = strange_count n || not (eqb numbers row_size)

-- 13, of what a controller keeps: its record or its IN names something that doesn't exist
unfoldable pub strange_kept : ℕ → State → ℕ → Bool
strange_kept n s ins = strange_record n s || strange_set n ins

-- 1, then 9 for the node's own number, then its row's 2 to 7
abbrev pub own_lines : ℕ → ℕ → List ℕ → List Line
own_lines n me row = line WrongCount 0 (wrong_own n (length row)) ∷ line NoNode 0 (no_node n me) ∷ row_lines n me (row_at row 0)

-- then 13
abbrev pub kept_lines : ℕ → ℕ → List ℕ → ℕ → State → List Line
kept_lines n me row ins s = own_lines n me row ++ line StrangeState 0 (strange_kept n s ins) ∷ []

-- then 10 for an opening, and 13 of the message for a delivery
abbrev pub open_lines : ℕ → ℕ → List ℕ → ℕ → State → ℕ → List Line
open_lines n me row ins s round = kept_lines n me row ins s ++ line CannotOpen 0 (cannot_open s.round round) ∷ []

abbrev pub deliver_lines : ℕ → ℕ → List ℕ → ℕ → State → Message → List Line
deliver_lines n me row ins s m = kept_lines n me row ins s ++ line StrangeState 0 (strange_message n m) ∷ []

-- what the checks answer: of the node and its row; of what it keeps too; of an opening; of a delivery
unfoldable pub check_own_of : ℕ → ℕ → List ℕ → Result Unit Refusal
check_own_of n me row = first_said (own_lines n me row)

unfoldable pub check_kept_of : ℕ → ℕ → List ℕ → ℕ → State → Result Unit Refusal
check_kept_of n me row ins s = first_said (kept_lines n me row ins s)

unfoldable pub check_open_of : ℕ → ℕ → List ℕ → ℕ → State → ℕ → Result Unit Refusal
check_open_of n me row ins s round = first_said (open_lines n me row ins s round)

unfoldable pub check_deliver_of : ℕ → ℕ → List ℕ → ℕ → State → Message → Result Unit Refusal
check_deliver_of n me row ins s m = first_said (deliver_lines n me row ins s m)
