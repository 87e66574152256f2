-- `find` meets its contract. Assumes nothing.
use mathlib.Core.Path.{◌≡◌, ◌∙◌}
use native.Mathlib.Omega.{arith}
use lib.Dec.{eqb}
use Rattle.std.proofs.Common.{rules, tests}
use Rattle.std.proofs.lemmas.Iterator.{YieldsList-from_slice}
use Rattle.std.proofs.lemmas.Iterator.Search.{position_from_yields_List}
use Rattle.fields.specs.Ends.{up_to}
use Rattle.fields.proofs.Finding.{found_or_end, up_le}
use Rattle.fields.proofs.ends.find.Goals as goal

pub returns : goal.returns
returns c =
    let found : c.unwrap_or.result ≡ up_to c.args.b c.args.s.now =
    c.unwrap_or.ensures
    ∙ found_or_end c.args.b c.args.s.now c.position.result
    (position_from_yields_List (λ x. eqb x c.args.b) _ _ c.position.result c.position.ensures.ran (YieldsList-from_slice _ c.iter.ensures.rest) (λ x b q k. search (rules, tests))) in
    (found, omega (arith, found, up_le c.args.b c.args.s.now))
