-- `code_steps` meets its contract. The loop's invariant: the steps that are left make of the list what all of them make of the list
-- as found. Assumes nothing.
use Rattle.script.proofs.Triples.{Coding}
use Rattle.script.proofs.steps.code_steps.Given as goal

abbrev pub invariant-loop-k : goal.invariant-loop-k
invariant-loop-k l = Coding l.list l.initial.steps l.steps l.k
