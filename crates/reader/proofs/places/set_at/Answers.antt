-- `set_at` meets its contract. Assumes nothing.
use mathlib.Core.Path.{◌≡◌, ap, ◌∙◌}
use mathlib.Core.List.{List}
use Prim.Native.Nat.{ℕ}
use Rattle.std.proofs.Common.{rules}
use Rattle.format.specs.Fields.{set_in}
use Rattle.fields.specs.Answers.{gathered}
use Rattle.reader.proofs.Taking.{set_by}
use Rattle.reader.proofs.places.set_at.Goals as goal

pub returns : goal.returns
returns c =
    set_by _ _ _ c.empty.ensures c.read_at.ensures.past
    (λ h.
    let r = c.read_at.ensures.here h in
    let k : r.0 ≡ gathered (set_in r.1.0.now) = search rules in
    (r.0, k ∙ ap (λ (w : List ℕ). gathered (set_in w)) r.1.2, r.2))
