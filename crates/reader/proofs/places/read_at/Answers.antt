-- `read_at` meets its contract. Assumes nothing.
use mathlib.Core.Path.{refl}
use Rattle.std.specs.Prelude.{Some, None}
use Rattle.reader.proofs.Taking.{field_is}
use Rattle.reader.proofs.places.read_at.Goals as goal

pub returns-in-Some-clause-here : goal.returns-in-Some-clause-here
returns-in-Some-clause-here g c =
    let f = field_is c.args.line.now c.args.from refl c.find-end.ensures.0 c.bare.ensures in
    λ h. (Some c.in-Some.value, (c.bare.result, c.in-Some.ensures, f.0), λ i. record { value = c.in-Some.value; next = f.1 i })

pub returns-in-None-clause-here : goal.returns-in-None-clause-here
returns-in-None-clause-here g c =
    let f = field_is c.args.line.now c.args.from refl c.find-end.ensures.0 c.bare.ensures in
    λ h. (None, (c.bare.result, c.in-None.ensures, f.0), refl)
