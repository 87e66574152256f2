-- `take_steps` meets its contract. Assumes nothing.
use Rattle.bench.proofs.Turns.{Turn}
use Rattle.bench.specs.AtWork.{state_at_work, SameLists}
use Rattle.bench.proofs.calls.take_steps.Given as goal

abbrev pub invariant-loop-j : goal.invariant-loop-j
invariant-loop-j l = record {
  same_lists : SameLists l.initial.bench l.bench;
  turn : Turn l.initial.bench.graph.nodes l.initial.bench.graph.rows.now l.steps (state_at_work l.initial.bench) l.initial.answers (state_at_work l.bench) l.answers l.j;
}
