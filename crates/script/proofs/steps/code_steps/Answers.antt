-- `code_steps` meets its contract. Assumes nothing.
use Rattle.script.proofs.Triples.{coding_good, coding_next, coding_all}
use Rattle.script.proofs.steps.code_steps.Goals as goal

pub step-requires : goal.step-requires
step-requires c = coding_good _ _ _ _ c.loop-k.invariant c.loop-k-test.true

pub loop-k-preserved : goal.loop-k-preserved
loop-k-preserved c = coding_next _ _ _ _ c.loop-k.invariant c.loop-k-test.true c.step.ensures

pub returns : goal.returns
returns c = coding_all _ _ _ _ c.loop-k.invariant c.loop-k-test.false
