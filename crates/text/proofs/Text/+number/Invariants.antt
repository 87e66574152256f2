-- The measure of `number` is the number itself: its tenth is smaller. Assumes nothing.
use Rattle.text.proofs.Text.+number.Given as goal

abbrev pub decreases-number : goal.decreases-number
decreases-number l = l.n
