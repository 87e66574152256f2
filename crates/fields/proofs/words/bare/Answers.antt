-- `bare` meets its contract. Assumes nothing.
use Rattle.fields.proofs.Spelling.{bare_short, bare_unopened, bare_unclosed, bare_quoted}
use Rattle.fields.proofs.words.bare.Goals as goal
use Rattle.fields.proofs.words.bare.Goals.{then-end-lt2-via-then-end-lt2, then-end-lt2-via-else-end-lt2+then-w-ne34, then-end-lt2-via-else-end-lt2+else-w-ne34+then-w-end-ne34}

pub returns-then-end-lt2 : goal.returns-then-end-lt2
returns-then-end-lt2 c =
    elim c.then-end-lt2.branch [
      | then-end-lt2-via-then-end-lt2 w ↦ bare_short _ w.if-end-lt2.true
      | then-end-lt2-via-else-end-lt2+then-w-ne34 w ↦ bare_unopened _ w.if-w-ne34.true
      | then-end-lt2-via-else-end-lt2+else-w-ne34+then-w-end-ne34 w ↦ bare_unclosed _ w.if-w-end-ne34.true
    ]

pub returns : goal.returns
returns c = bare_quoted _ c.if-end-lt2.false c.if-w-ne34.false c.if-w-end-ne34.false
