-- What the calls of the code hand back, besides the lent lists. Assumes nothing.
use Rattle.std.specs.Prelude.{ℕ, Err}
use Rattle.nodes.specs.declared.Round.{Round}
use Rattle.waits.specs.declared.refusals.Reason.{Reason}
use Rattle.bench.specs.declared.steps.Reply.{Reply}
use Rattle.bench.specs.declared.calls.Ran.{Ran}
use Rattle.bench.specs.Bench.{refusal}

-- a refusal hands back the count and the highest round as they were: of a step, and of a list of steps as a whole
abbrev pub refused : Reason → ℕ → Round → Reply
refused reason sent highest = record { sent = sent; highest = highest; answer = Err (refusal reason) }

abbrev pub refused_list : Reason → ℕ → Round → Ran
refused_list reason sent highest = record { sent = sent; highest = highest; checked = Err (refusal reason) }
