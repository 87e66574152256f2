-- `number_in` meets its contract. Assumes nothing.
use Rattle.fields.proofs.Digits.{Digits}
use Rattle.fields.proofs.numbers.number_in.Given as goal

abbrev pub invariant-loop-b : goal.invariant-loop-b
invariant-loop-b l = Digits l.w l.v l.b-index
