-- What the inner functions ask of a refusal, which every refusal has: its number and its row fit into one result. Assumes nothing.
use Rattle.std.specs.Prelude.{Result, Ok, Err}
use Rattle.waits.specs.declared.refusals.Refusal.{Refusal}
use Rattle.waits.specs.Numbers.{Small}

-- an answer, if it is a refusal
abbrev pub SmallAnswer : {A : Type 0} → Result A Refusal → Type 0
SmallAnswer (Err r) = Small r
SmallAnswer (Ok a) = Unit {0}
