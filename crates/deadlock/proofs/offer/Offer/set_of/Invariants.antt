-- `set_of` meets its contract. The loop's invariant: the entries passed are in the set. Assumes nothing.
use mathlib.Core.Path.{◌≡◌}
use lib.ListN.{take}
use Rattle.nodes.specs.Sets.{set_of}
use Rattle.nodes.specs.Words.{num}
use Rattle.deadlock.proofs.offer.Offer.set_of.Given as goal

abbrev pub invariant-loop-entry : goal.invariant-loop-entry
invariant-loop-entry l = num l.s ≡ set_of (take l.entry-index l.self.list.now)
