-- What the structs of the code stand for. Assumes nothing.
use Rattle.std.specs.Prelude.{ℕ}
use Rattle.nodes.specs.Words.{num}
use Rattle.records.specs.Records.{state_of}
use Rattle.waits.specs.declared.rows.Row.{Row}
use Rattle.waits.specs.Rows.{out_of, holds_of}
use Rattle.step.specs.declared.awaited.Own.{Own}
use Rattle.step.specs.declared.sends.Sends.{Sends}
use Rattle.step.specs.declared.steps.Did.{Did}
use Rattle.step.specs.declared.steps.End.{End as Steps-as-End}
use Rattle.step.specs.declared.answers.Stepped.{Stepped}
use Rattle.step.specs.Step.{Seen, Receivers, Move, End, Outcome}

-- what a node sees that has this number, this row and this IN
abbrev pub seen_by : ℕ → Row → ℕ → Seen
seen_by me r ins = record { me = me; out = out_of r; holds = holds_of r; ins = ins }

abbrev pub seen_of : Own → Seen
seen_of o = seen_by o.me.0 o.row (num o.ins)

abbrev pub receivers_of : Sends → Receivers
receivers_of s = record { notify = num s.notify; grant = num s.grant; ack = num s.ack; done = num s.done }

abbrev pub move_of : Did → Move
move_of d = record { state = state_of d.state; sends = receivers_of d.sends }

abbrev pub end_of : Steps-as-End → End
end_of e = record { state = state_of e.state; sends = receivers_of e.sends; verdict = e.verdict }

abbrev pub outcome_of : Stepped → Outcome
outcome_of s = record { state = state_of s.state; sends = receivers_of s.sends; answer = s.answer }
