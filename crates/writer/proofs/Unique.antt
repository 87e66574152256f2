-- Any two results that the promise allows are equal, lent bytes included. Assumes nothing.
use mathlib.Core.Path.{◌≡◌}
use mathlib.Core.List.{List}
use Prim.Native.Nat.{ℕ}
use Rattle.std.specs.Prelude.{Result}
use Rattle.waits.specs.declared.refusals.Refusal.{Refusal}
use Rattle.lemmas.proofs.Cases.{only_one}
use Rattle.writer.specs.Answer.{WrittenSays}

pub one_written : (n : ℕ) (rows found left right : List ℕ) (x y : Result ℕ Refusal) → WrittenSays n rows found left x → WrittenSays n rows found right y
    → (x ≡ y) × (left ≡ right)
one_written n rows found left right x y p q = (only_one p.0 q.0, only_one p.1 q.1)
