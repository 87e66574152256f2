-- A visit that reaches meets its contract. Assumes nothing.
use mathlib.Core.Path.{ap, ◌∙◌}
use Rattle.lemmas.proofs.Cases.{flag}
use Rattle.nodes.specs.Sets.{union}
use Rattle.deadlock.proofs.Cases.{out_within}
use Rattle.deadlock.proofs.Paths.{reaching_yes}
use Rattle.deadlock.proofs.reach.ReachingVisit.visit.Goals as goal

pub returns-then-has : goal.returns-then-has
returns-then-has c = c.union.ensures ∙ ap (union _) (out_within _ _ _ c.meet.ensures c.out_of.ensures c.row.ensures) ∙ reaching_yes _ _ _ _ (flag c.has.ensures c.if-has.true)
