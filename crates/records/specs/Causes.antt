-- Whether a node was called, or freed, and through whom. Assumes nothing.
use Rattle.std.specs.Prelude.{Bool, true, false, ℕ, zero, suc, ◌<◌}
use Rattle.nodes.specs.Sets.{single, no_node}
use Rattle.nodes.specs.Words.{places}
use Rattle.records.specs.declared.causes.Why.{Why}
use Rattle.records.specs.declared.causes.Why.TheVariants.{Not, Itself, By}

-- the number of a cause: 0 not at all, 1 by the node itself, k + 2 by node k
abbrev pub why_of : ℕ → Why
why_of zero = Not
why_of (suc zero) = Itself
why_of (suc (suc k)) = By (record { 0 = k })

-- and back
abbrev pub cause_number : Why → ℕ
cause_number Not = 0
cause_number Itself = 1
cause_number (By k) = suc (suc k.0)

abbrev pub happened : Why → Bool
happened Not = false
happened Itself = true
happened (By k) = true

-- it was the node itself
abbrev pub by_itself : Why → Bool
by_itself Not = false
by_itself Itself = true
by_itself (By k) = false

-- the other node that it came from, as a set
abbrev pub sender_of : Why → ℕ
sender_of Not = 0
sender_of Itself = 0
sender_of (By k) = single k.0

-- it names a node that isn't among n
abbrev pub strange_why : ℕ → Why → Bool
strange_why n Not = false
strange_why n Itself = false
strange_why n (By k) = no_node n k.0

-- the node that it names has a place in a set
abbrev pub Fits : Why → Type 0
Fits Not = Unit {0}
Fits Itself = Unit {0}
Fits (By k) = k.0 < places
