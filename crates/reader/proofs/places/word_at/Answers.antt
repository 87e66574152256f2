-- `word_at` meets its contract. Assumes nothing.
use mathlib.Core.Path.{◌≡◌, ap, ◌∙◌}
use mathlib.Core.Bool.{Bool}
use mathlib.Core.List.{List}
use Prim.Native.Nat.{ℕ}
use lib.Dec.{eqb}
use Rattle.std.proofs.Common.{rules}
use Rattle.std.specs.Cmp.Lexicographic.{pointwise}
use Rattle.std.specs.Bool.{then_some}
use Rattle.format.specs.Fields.{same}
use Rattle.fields.proofs.Spelling.{same_pointwise}
use Rattle.reader.proofs.Taking.{word_by}
use Rattle.reader.proofs.places.word_at.Goals as goal

pub returns : goal.returns
returns c =
    word_by _ _ _ _ c.read_at.ensures.past
    (λ h.
    let r = c.read_at.ensures.here h in
    let k : r.0 ≡ then_some (pointwise eqb r.1.0.now c.args.word.now) tt = search rules in
    (r.0, k ∙ ap (λ (b : Bool). then_some b tt) (same_pointwise _ _ ∙ ap (λ (w : List ℕ). same w c.args.word.now) r.1.2), r.2))
