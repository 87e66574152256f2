-- `graph` meets its contract. Assumes nothing.
use Rattle.report.proofs.Settle.{graph_refused, graph_listed}
use Rattle.report.proofs.graph.Goals as goal

pub returns-in-Ok : goal.returns-in-Ok
returns-in-Ok c = graph_listed _ _ _ c.all_deadlocked.ensures c.in-Ok.is c.node_lines.ensures

pub returns-in-Err : goal.returns-in-Err
returns-in-Err c = graph_refused _ _ _ c.all_deadlocked.ensures c.in-Err.is c.refusal.ensures
