-- `answer` meets its contract. Assumes nothing.
use native.Mathlib.Omega.{arith}
use Rattle.report.proofs.Settle.{too_long, few_nodes, file_wrong, file_graph}
use Rattle.report.proofs.answer.Goals as goal

pub returns-then-file-gt-BYTES : goal.returns-then-file-gt-BYTES
returns-then-file-gt-BYTES c = too_long _ c.if-file-gt-BYTES.true c.refused.ensures

pub overflow_mul-said : goal.overflow_mul-said
overflow_mul-said c = omega (arith, few_nodes _ c.read_file.ensures c.in-Ok.is)

pub shared_ref_as_front-graph : goal.shared_ref_as_front-graph
shared_ref_as_front-graph c = omega (arith, few_nodes _ c.read_file.ensures c.in-Ok.is)

pub returns-in-Ok : goal.returns-in-Ok
returns-in-Ok c = file_graph _ c.read_file.ensures c.in-Ok.is c.if-file-gt-BYTES.false c.graph.ensures

pub returns-in-Err : goal.returns-in-Err
returns-in-Err c = file_wrong _ c.read_file.ensures c.if-file-gt-BYTES.false c.in-Err.is c.refusal.ensures
