-- `member_in` meets its contract. Assumes nothing.
use native.Mathlib.Omega.{arith}
use Rattle.lemmas.proofs.Cases.{flag}
use Rattle.faults.proofs.Judging.{member_empty, member_strange, member_past, member_high, member_twice, member_descends, member_is}
use Rattle.faults.proofs.flaws.member_in.Goals as goal

pub returns-then-is_empty-clause-is : goal.returns-then-is_empty-clause-is
returns-then-is_empty-clause-is c = member_empty _ _ (flag c.is_empty.ensures c.if-is_empty.true)

pub returns-then-strange_in-clause-is : goal.returns-then-strange_in-clause-is
returns-then-strange_in-clause-is c = member_strange _ _ (flag c.is_empty.ensures c.if-is_empty.false) (flag c.strange_in.ensures c.if-strange_in.true)

pub returns-in_default-clause-is : goal.returns-in_default-clause-is
returns-in_default-clause-is c = member_past _ _ (flag c.is_empty.ensures c.if-is_empty.false) (flag c.strange_in.ensures c.if-strange_in.false) c.in_default.ensures

pub returns-then-m-clause-is : goal.returns-then-m-clause-is
returns-then-m-clause-is c = member_high _ _ (flag c.is_empty.ensures c.if-is_empty.false) (flag c.strange_in.ensures c.if-strange_in.false) c.in-Some.ensures (omega arith)

pub returns-then-m-lowest-clause-is : goal.returns-then-m-lowest-clause-is
returns-then-m-lowest-clause-is c = member_twice _ _ (flag c.is_empty.ensures c.if-is_empty.false) (flag c.strange_in.ensures c.if-strange_in.false) c.in-Some.ensures (omega arith) c.if-m-lowest.true

pub returns-then-m-lowest-2-clause-is : goal.returns-then-m-lowest-2-clause-is
returns-then-m-lowest-2-clause-is c = member_descends _ _ (flag c.is_empty.ensures c.if-is_empty.false) (flag c.strange_in.ensures c.if-strange_in.false) c.in-Some.ensures (omega arith) c.if-m-lowest.false c.if-m-lowest-2.true

pub returns-clause-is : goal.returns-clause-is
returns-clause-is c = member_is _ _ (flag c.is_empty.ensures c.if-is_empty.false) (flag c.strange_in.ensures c.if-strange_in.false) c.in-Some.ensures (omega arith) c.if-m-lowest.false c.if-m-lowest-2.false
