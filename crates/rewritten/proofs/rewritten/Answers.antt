-- `rewritten` meets its contract. Assumes nothing.
use native.Mathlib.Omega.{arith}
use Rattle.report.proofs.Settle.{few_nodes}
use Rattle.rewritten.proofs.Settle.{long_refused, wrong_refused, graph_accepted, graph_written}
use Rattle.rewritten.proofs.rewritten.Goals as goal

pub returns-then-file-gt-BYTES : goal.returns-then-file-gt-BYTES
returns-then-file-gt-BYTES c = long_refused _ _ _ _ c.if-file-gt-BYTES.true c.report.ensures

pub overflow_mul-said : goal.overflow_mul-said
overflow_mul-said c = omega (arith, few_nodes _ c.read_file.ensures c.in-Ok.is)

pub shared_ref_as_front-graph : goal.shared_ref_as_front-graph
shared_ref_as_front-graph c = omega (arith, few_nodes _ c.read_file.ensures c.in-Ok.is)

pub graph-requires : goal.graph-requires
graph-requires c = graph_accepted _ c.read_file.ensures c.in-Ok.is

pub returns-in-Ok : goal.returns-in-Ok
returns-in-Ok c = graph_written _ _ _ _ c.if-file-gt-BYTES.false c.read_file.ensures c.in-Ok.is c.graph.ensures

pub returns-in-Err : goal.returns-in-Err
returns-in-Err c = wrong_refused _ _ _ _ c.if-file-gt-BYTES.false c.read_file.ensures c.in-Err.is c.report-in-Err.ensures
