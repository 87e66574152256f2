-- The one number that each call hands back. Assumes nothing.
use Rattle.std.specs.Prelude.{Bool, true, false, ℕ, ◌+◌, ◌*◌, Result, Ok, Err}
use Rattle.nodes.specs.declared.Set.{Set}
use Rattle.waits.specs.declared.refusals.Refusal.{Refusal}
use Rattle.waits.specs.Numbers.{reason_number}
use Rattle.deadlock.specs.declared.evidence.Judged.{Judged}
use Rattle.deadlock.specs.declared.evidence.Judged.TheVariants.{Passes, ClaimMissing, MemberSatisfied}
use Rattle.deadlock.specs.declared.ring.Report.{Report}
use Rattle.deadlock.specs.declared.ring.Report.TheVariants.{InRing, BehindRing, NotDeadlocked}
use Rattle.step.specs.declared.answers.Answer.{Answer}
use Rattle.step.specs.Answers.{code_of}

-- a refusal: its number, and 256 times its row
abbrev pub refusal : Refusal → ℕ
refusal r = reason_number r.reason + 256 * r.row.0

-- anything else, but for a graph that is accepted: 65,536 plus what the call says
abbrev pub plus : ℕ → ℕ
plus k = 65536 + k

-- a check of a graph
abbrev pub checked : Result Unit Refusal → ℕ
checked (Err r) = refusal r
checked (Ok u) = 0

-- a claim: deadlocked or not
abbrev pub claim : Result Bool Refusal → ℕ
claim (Err r) = refusal r
claim (Ok false) = plus 0
claim (Ok true) = plus 1

-- all claims, and who waits on a node: the set is lent
abbrev pub found : Result Set Refusal → ℕ
found (Err r) = refusal r
found (Ok s) = plus 0

-- evidence written: how many bytes
abbrev pub written : Result ℕ Refusal → ℕ
written (Err r) = refusal r
written (Ok k) = plus k

-- a list judged
abbrev pub judged : Result Judged Refusal → ℕ
judged (Err r) = refusal r
judged (Ok Passes) = plus 1
judged (Ok ClaimMissing) = plus 2
judged (Ok (MemberSatisfied k)) = plus (256 + k.0)

-- the ring
abbrev pub report : Result Report Refusal → ℕ
report (Err r) = refusal r
report (Ok NotDeadlocked) = plus 0
report (Ok InRing) = plus 1
report (Ok BehindRing) = plus 2

-- an opening, a delivery, a step of a bench
abbrev pub answer : Result Answer Refusal → ℕ
answer (Err r) = refusal r
answer (Ok a) = plus (code_of (Ok a))

-- a list of steps
abbrev pub ran : Result Unit Refusal → ℕ
ran (Err r) = refusal r
ran (Ok u) = plus 0
