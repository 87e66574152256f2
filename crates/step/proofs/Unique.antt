-- What a call hands back is settled: two results that a promise allows are equal. Assumes nothing.
use mathlib.Core.Path.{◌≡◌, sym, ap, ◌∙◌}
use Rattle.nodes.proofs.Words.{same_set}
use Rattle.records.proofs.Unique.{same_record}
use Rattle.step.specs.declared.answers.Stepped.{Stepped}
use Rattle.step.specs.Step.{Outcome}
use Rattle.step.specs.Views.{outcome_of}

same_stepped : (r s : Stepped) → outcome_of r ≡ outcome_of s → r ≡ s
same_stepped r s e =
    let state = same_record r.state s.state (ap (λ (x : Outcome). x.state) e) in
    let notify = same_set r.sends.notify s.sends.notify (ap (λ (x : Outcome). x.sends.notify) e) in
    let grant = same_set r.sends.grant s.sends.grant (ap (λ (x : Outcome). x.sends.grant) e) in
    let ack = same_set r.sends.ack s.sends.ack (ap (λ (x : Outcome). x.sends.ack) e) in
    let done = same_set r.sends.done s.sends.done (ap (λ (x : Outcome). x.sends.done) e) in
    λ i. record {
      state = state i;
      sends = record { notify = notify i; grant = grant i; ack = ack i; done = done i };
      answer = (e i).answer;
    }

-- the promises of an opening and of a delivery say what the outcome is
pub one_stepped : {x : Outcome} (r s : Stepped) → outcome_of r ≡ x → outcome_of s ≡ x → r ≡ s
one_stepped r s e f = same_stepped r s (e ∙ sym f)
