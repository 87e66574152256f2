-- `member` meets its contract. Assumes nothing.
use mathlib.Core.Path.{◌∙◌}
use Rattle.fields.proofs.Gathering.{member_none, member_low, member_high, member_is}
use Rattle.fields.proofs.sets.member.Goals as goal
use Rattle.fields.proofs.sets.member.Goals.{then-m-lowest-via-then-m-lowest, then-m-lowest-via-else-m-lowest+then-m}

pub returns-in_err-m-clause-is : goal.returns-in_err-m-clause-is
returns-in_err-m-clause-is c = c.from_residual.ensures ∙ member_none _ _ c.in_err-m.ensures

pub returns-then-m-lowest-clause-is : goal.returns-then-m-lowest-clause-is
returns-then-m-lowest-clause-is c =
    elim c.then-m-lowest.branch [
      | then-m-lowest-via-then-m-lowest w ↦ member_low _ _ c.in_ok-m.ensures w.if-m-lowest.true
      | then-m-lowest-via-else-m-lowest+then-m w ↦ member_high _ _ c.in_ok-m.ensures w.if-m.true
    ]

pub returns-clause-is : goal.returns-clause-is
returns-clause-is c = member_is _ _ c.in_ok-m.ensures c.if-m-lowest.false c.if-m.false
