-- `coldroom_run` meets its contract. Assumes nothing.
use mathlib.Core.Path.{sym, ap, ◌∙◌}
use Rattle.bench.specs.Runs.{Run}
use Rattle.coldroom.proofs.Small.{run_small}
use Rattle.coldroom.proofs.benches.coldroom_run.Goals as goal

pub refusal-requires : goal.refusal-requires
refusal-requires c = run_small _ _ _ _ _ _ (sym (ap (λ (x : Run). x.checked) c.run-ran.ensures) ∙ c.in-Err.is)
