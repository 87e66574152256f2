-- `settle` meets its contract. The loop's invariant: so many sweeps were made; one that adds nobody is the last that is needed. Assumes nothing.
use mathlib.Core.Path.{sym, ◌∙◌}
use native.Mathlib.Omega.{arith}
use borrow.Author.Tests.{eqb-true}
use Rattle.lemmas.proofs.Cases.{flag}
use Rattle.deadlock.proofs.Sweeps.{nobody_new}
use Rattle.deadlock.proofs.visits.settle.Goals as goal

pub returns-then-is_empty : goal.returns-then-is_empty
returns-then-is_empty g c = nobody_new _ c.requires _ _ _ _ _ (omega arith) c.loop.invariant c.sweep-next.ensures (sym c.minus.ensures ∙ eqb-true _ _ (flag c.is_empty.ensures c.if-is_empty.true))
