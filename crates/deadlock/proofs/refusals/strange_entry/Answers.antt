-- `strange_entry` meets its contract. Assumes nothing.
use mathlib.Core.Path.{◌∙◌}
use Rattle.std.proofs.Common.{rules, tests}
use Rattle.std.proofs.lemmas.Iterator.{YieldsList-from_slice}
use Rattle.std.proofs.lemmas.Iterator.Search.{any_from_yields_List}
use Rattle.nodes.specs.Sets.{no_node}
use Rattle.deadlock.specs.Refusals.{strange_entry}
use Rattle.deadlock.proofs.Cases.{any_entry}
use Rattle.deadlock.proofs.refusals.strange_entry.Goals as goal

pub returns : goal.returns
unfolding strange_entry no_node
returns c =
    any_from_yields_List (no_node c.args.nodes) _ _ _ c.any.ensures.ran
    (YieldsList-from_slice c.args.list.now (cc)) (λ x b q k. search (rules, tests)) ∙ any_entry (no_node c.args.nodes) c.args.list.now
