-- `snag_in` meets its contract. Assumes nothing.
use mathlib.Core.Path.{◌≡◌, sym, ◌∙◌}
use Prim.Native.Nat.{ℕ}
use lib.Seq.{length-take-le}
use lib.ListN.{length-replicate}
use Rattle.script.proofs.Counts.{read_inside}
use Rattle.script.specs.Script.{most_numbers}
use Rattle.std.specs.Prelude.{Option, Some, None, Result, Ok, Err}
use Rattle.std.specs.Option.{ok_or}
use Rattle.std.specs.Result.{IsErrAnd}
use Rattle.snags.specs.declared.finding.Snag.{Snag}
use Rattle.snags.specs.declared.finding.Snag.TheVariants.{Crowd}
use Rattle.snags.proofs.Found.{read_crowd, read_some}
use Rattle.snags.proofs.finding.snag_in.Goals as goal

crowd : (r : Result Unit Snag) (n : Option ℕ) (e : Snag) → n ≡ None → ◌≡◌ {A = Result ℕ Snag} (Err e) (ok_or n Crowd) → IsErrAnd r (λ x. x ≡ e) → r ≡ Err Crowd
crowd (Ok u) n e o v a = absurd a
crowd (Err x) None e o v a = cc
crowd (Err x) (Some k) e o v a = absurd (cc)

pub returns-in_err-count : goal.returns-in_err-count
returns-in_err-count c =
    crowd _ _ _ c.in_err-count.ensures.ok_part c.in_err-count.ensures.value c.from_residual-in_err-count.ensures.1
    ∙ read_crowd _ c.if-script-gt-BYTES.false (sym c.in_ok-stop_of.was ∙ c.stop_of.ensures) _ _ (length-replicate {A = ℕ} most_numbers 0) c.in_err-count.ensures.ok_part c.read.ensures

pub slice_bounds-numbers-end : goal.slice_bounds-numbers-end
slice_bounds-numbers-end c = read_inside _ _ _ c.read.ensures.stored (sym c.in_ok-count.ensures.ok_part ∙ c.read.ensures.counted)

pub slice_bounds-numbers_snag-end : goal.slice_bounds-numbers_snag-end
slice_bounds-numbers_snag-end c = sym (length-take-le _ _ (read_inside _ _ _ c.read.ensures.stored (sym c.in_ok-count.ensures.ok_part ∙ c.read.ensures.counted)))

pub returns : goal.returns
returns c = read_some _ c.if-script-gt-BYTES.false (sym c.in_ok-stop_of.was ∙ c.stop_of.ensures) _ _ c.in_ok-count.ensures.ok_part c.read.ensures c.numbers_snag.ensures
