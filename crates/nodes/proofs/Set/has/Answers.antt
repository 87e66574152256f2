-- `Set::has` meets its contract: no word has a digit past its places. Assumes nothing.
use mathlib.Core.Path.{sym, ◌∙◌}
use native.Mathlib.Omega.{arith}
use borrow.Author.Tests.{le-ltb}
use Rattle.nodes.specs.Words.{num}
use Rattle.nodes.proofs.Bit.{out_has, bit_above}
use Rattle.nodes.proofs.Set.has.Goals as goal

pub returns-else-k-lt-PLACES : goal.returns-else-k-lt-PLACES
unfolding num
returns-else-k-lt-PLACES c = le-ltb _ _ c.if-k-lt-PLACES.false ∙ sym (out_has _ _ (bit_above 64 _ _ (omega arith) (omega arith)))
