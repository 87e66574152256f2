-- A bench at work: what the code holds of it. Assumes nothing.
use Rattle.std.specs.Prelude.{◌≡◌}
use Rattle.waits.specs.Waits.{Waits}
use Rattle.waits.specs.Graph.{graph_of}
use Rattle.bench.specs.declared.steps.AtWork.{AtWork}
use Rattle.bench.specs.Bench.{Bench, bench}
use Rattle.bench.specs.Strange.{Good}

-- its graph of waits, and its state
abbrev pub waits_at : AtWork → Waits
waits_at b = graph_of b.graph

abbrev pub state_at_work : AtWork → Bench
state_at_work b = bench b.records.now b.messages.now b.sent b.highest.0

-- its state can be
abbrev pub GoodAtWork : AtWork → Type 0
GoodAtWork b = Good b.graph.nodes b.graph.rows.now (state_at_work b)

-- a step leaves it the same graph and the same lent lists, whatever it writes there
abbrev pub SameLists : AtWork → AtWork → Type 0
SameLists old new = (new.graph ≡ old.graph) × (new.records.ghost_name ≡ old.records.ghost_name) × (new.messages.ghost_name ≡ old.messages.ghost_name)
