-- `Set::among` meets its contract: no word has a digit past its places. Assumes nothing.
use mathlib.Core.Path.{sym, ◌∙◌}
use native.Mathlib.Omega.{arith}
use borrow.Author.Tests.{le-leb}
use Rattle.nodes.specs.Words.{num}
use Rattle.nodes.proofs.Inside.{inside_any}
use Rattle.nodes.proofs.Set.among.Goals as goal

pub returns-then-n-ge-PLACES : goal.returns-then-n-ge-PLACES
unfolding num
returns-then-n-ge-PLACES c = le-leb _ _ c.if-n-ge-PLACES.true ∙ sym (inside_any 64 _ _ (omega arith) c.if-n-ge-PLACES.true)
