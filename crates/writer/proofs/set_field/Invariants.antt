-- The loop's invariant: the members that are left make of the lent bytes what the whole set makes of them as found. Assumes nothing.
use mathlib.Core.List.{◌∷◌}
use Rattle.nodes.specs.Words.{num, to_come}
use Rattle.text.proofs.Writing.{Left}
use Rattle.format.specs.Cut.{comma}
use Rattle.format.specs.Written.{set_text}
use Rattle.writer.proofs.Parts.{spaced}
use Rattle.writer.proofs.set_field.Given as goal

abbrev pub invariant-loop-k : goal.invariant-loop-k
invariant-loop-k l = Left l.fn.out l.out (spaced (to_come l.k-iterator)) (comma ∷ set_text (num l.fn.s))
