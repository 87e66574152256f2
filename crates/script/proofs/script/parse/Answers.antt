-- `parse` meets its contract. Assumes nothing.
use mathlib.Core.Path.{sym, ◌∙◌}
use lib.Seq.{length-take-le}
use Rattle.script.proofs.Counts.{read_inside}
use Rattle.script.proofs.Parsing.{parse_long, parse_bad, parse_all}
use Rattle.script.proofs.script.parse.Goals as goal

pub returns-then-script-gt-BYTES : goal.returns-then-script-gt-BYTES
returns-then-script-gt-BYTES c = parse_long _ _ _ c.if-script-gt-BYTES.true

pub returns-in_err-count : goal.returns-in_err-count
returns-in_err-count c = rw c.from_residual.ensures (parse_bad _ _ _ c.if-script-gt-BYTES.false c.read.ensures.stored c.requires.0 (sym c.in_err-count.was ∙ c.read.ensures.counted))

pub slice_bounds-code-end : goal.slice_bounds-code-end
slice_bounds-code-end c = read_inside _ _ _ c.read.ensures.stored (sym c.in_ok-count.was ∙ c.read.ensures.counted)

pub slice_bounds-code-end-2 : goal.slice_bounds-code-end-2
slice_bounds-code-end-2 c = sym (length-take-le _ _ (read_inside _ _ _ c.read.ensures.stored (sym c.in_ok-count.was ∙ c.read.ensures.counted)))

pub returns : goal.returns
returns c = parse_all _ _ _ c.if-script-gt-BYTES.false c.read.ensures.stored (sym c.in_ok-count.was ∙ c.read.ensures.counted) c.code.ensures
