-- `header_fault` meets its contract. Assumes nothing.
use mathlib.Core.List.{List}
use mathlib.Core.Path.{refl, ap, ◌∙◌}
use Prim.Native.Nat.{ℕ}
use Rattle.lemmas.proofs.Cases.{at_true, at_false, flag}
use Rattle.faults.specs.Faults.{line_fault, header_fault}
use Rattle.faults.specs.declared.Fault.TheVariants.{NoHeader}
use Rattle.faults.proofs.header_fault.Goals as goal

pub returns-then-is_empty : goal.returns-then-is_empty
unfolding header_fault
returns-then-is_empty c = at_true _ (flag c.is_empty.ensures c.if-is_empty.true) refl

pub returns-then-marked : goal.returns-then-marked
unfolding header_fault
returns-then-marked c = at_false _ (flag c.is_empty.ensures c.if-is_empty.false) (at_true _ (flag c.marked.ensures c.if-marked.true) refl)

pub returns : goal.returns
unfolding header_fault
returns c = at_false _ (flag c.is_empty.ensures c.if-is_empty.false) (at_false _ (flag c.marked.ensures c.if-marked.false) (c.line_fault.ensures ∙ ap (λ (l : List ℕ). line_fault l NoHeader) c.line_at.ensures))
