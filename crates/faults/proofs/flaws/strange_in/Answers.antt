-- `strange_in` meets its contract. Assumes nothing.
use mathlib.Core.Path.{◌∙◌}
use mathlib.Core.Bool.{not}
use Rattle.std.proofs.Common.{rules, tests}
use Rattle.std.specs.Char.{is_ascii_digit}
use Rattle.std.proofs.lemmas.Iterator.{YieldsList-from_slice}
use Rattle.std.proofs.lemmas.Iterator.Search.{any_from_yields_List}
use Rattle.faults.proofs.Judging.{strange_by}
use Rattle.faults.proofs.flaws.strange_in.Goals as goal

pub returns : goal.returns
returns c =
    any_from_yields_List (λ b. not (is_ascii_digit b)) _ _ _ c.any.ensures.ran
    (YieldsList-from_slice c.args.w.now (cc)) (λ x b q k. search (rules, tests)) ∙ strange_by _
