-- `place_words` meets its contract. Assumes nothing.
use mathlib.Core.Path.{ap, ◌∙◌}
use Prim.Native.Nat.{ℕ}
use Rattle.text.specs.Words.{word}
use Rattle.reasons.specs.Reasons.{place_words}
use Rattle.text.proofs.Writing.{wrote_none, wrote_then, wrote_as}
use Rattle.reasons.proofs.Said.{none_placed, row_placed}
use Rattle.reasons.proofs.words.place_words.Goals as goal

pub returns-then-number-lt2 : goal.returns-then-number-lt2
returns-then-number-lt2 c = wrote_as (none_placed _ _ c.then-number-lt2.either ∙ ap (λ (n : ℕ). place_words n c.args.r.row.0) c.number-number.ensures) (wrote_none _)

pub returns : goal.returns
unfolding word
returns c = wrote_as (row_placed _ _ c.if-number-lt2.false c.if-number-gt7.false ∙ ap (λ (n : ℕ). place_words n c.args.r.row.0) c.number-number.ensures) (wrote_then (wrote_then c.bytes.ensures c.number.ensures) c.bytes-2.ensures)
