-- When a question about a graph is refused: the graph's numbers, then 9, then 14 and 18 or 15, each with the line that the
-- paper's table has for it. Assumes nothing.
use Rattle.std.specs.Prelude.{Bool, not, List, [], ◌∷◌, ◌++◌, ℕ, ltb, Result}
use Rattle.lemmas.specs.Lists.{any_of, ascending}
use Rattle.nodes.specs.Sets.{no_node}
use Rattle.waits.specs.declared.refusals.Refusal.{Refusal}
use Rattle.waits.specs.Numbers.{Line, line, graph_lines, first_said}
use Rattle.waits.specs.declared.refusals.Reason.TheVariants.{NoNode, StrangeEntry, ShortRoom, NotAscending}

-- 14: some entry of the list isn't the number of a node
unfoldable pub strange_entry : ℕ → List ℕ → Bool
strange_entry n l = any_of (no_node n) l

-- 18: the list isn't strictly ascending
unfoldable pub not_ascending : List ℕ → Bool
not_ascending l = not (ascending l)

-- 15: fewer bytes are lent than there are nodes, however few the evidence needs
unfoldable pub small_room : ℕ → ℕ → Bool
small_room n room = ltb room n

-- The graph's own numbers; then 9: the question is about no node of it; then what the question adds. From 9 on none is of a row.
abbrev pub asked_lines : ℕ → List ℕ → ℕ → List Line → List Line
asked_lines n rows i more = graph_lines n rows ++ line NoNode 0 (no_node n i) ∷ more

-- with a list, 14 and then 18; with so many lent bytes, 15
abbrev pub list_lines : ℕ → List ℕ → ℕ → List ℕ → List Line
list_lines n rows i l = asked_lines n rows i (line StrangeEntry 0 (strange_entry n l) ∷ line NotAscending 0 (not_ascending l) ∷ [])

abbrev pub room_lines : ℕ → List ℕ → ℕ → ℕ → List Line
room_lines n rows i room = asked_lines n rows i (line ShortRoom 0 (small_room n room) ∷ [])

-- what the check of a question about node i answers; of one that comes with a list; of one that comes with lent room
unfoldable pub check_node_of : ℕ → List ℕ → ℕ → Result Unit Refusal
check_node_of n rows i = first_said (asked_lines n rows i [])

unfoldable pub check_list_of : ℕ → List ℕ → ℕ → List ℕ → Result Unit Refusal
check_list_of n rows i l = first_said (list_lines n rows i l)

unfoldable pub check_room_of : ℕ → List ℕ → ℕ → ℕ → Result Unit Refusal
check_room_of n rows i room = first_said (room_lines n rows i room)
