-- `number_at` meets its contract. Assumes nothing.
use mathlib.Core.Path.{◌≡◌, ap, ◌∙◌}
use mathlib.Core.List.{List}
use Prim.Native.Nat.{ℕ}
use Rattle.std.proofs.Common.{rules}
use Rattle.format.specs.Fields.{number_of}
use Rattle.fields.specs.Answers.{numbered}
use Rattle.reader.proofs.Taking.{number_by}
use Rattle.reader.proofs.places.number_at.Goals as goal

pub returns : goal.returns
returns c =
    number_by _ _ _ c.read_at.ensures.past
    (λ h.
    let r = c.read_at.ensures.here h in
    let k : r.0 ≡ numbered (number_of r.1.0.now) = search rules in
    (r.0, k ∙ ap (λ (w : List ℕ). numbered (number_of w)) r.1.2, r.2))
