-- A record of the code is what it says: two that say the same are equal. Assumes nothing.
use mathlib.Core.Path.{◌≡◌, refl, sym, ap, ◌∙◌}
use Prim.Native.Nat.{ℕ, zero, suc}
use Rattle.nodes.proofs.Words.{same_set}
use Rattle.records.specs.declared.records.Record.{Record}
use Rattle.records.specs.Causes.{why_of, cause_number}
use Rattle.records.specs.Records.{State, state_of}

pub numbered : (n : ℕ) → cause_number (why_of n) ≡ n
numbered zero = refl
numbered (suc zero) = refl
numbered (suc (suc k)) = refl

same_cause : (a b : ℕ) → why_of a ≡ why_of b → a ≡ b
same_cause a b e = sym (numbered a) ∙ ap cause_number e ∙ numbered b

pub same_record : (r s : Record) → state_of r ≡ state_of s → r ≡ s
same_record r s e =
    let call = same_cause r.call.0 s.call.0 (ap (λ (x : State). x.call) e) in
    let freed = same_cause r.freed.0 s.freed.0 (ap (λ (x : State). x.freed) e) in
    let notify = same_set r.notify s.notify (ap (λ (x : State). x.notify) e) in
    let grant = same_set r.grant s.grant (ap (λ (x : State). x.grant) e) in
    let ack = same_set r.ack s.ack (ap (λ (x : State). x.ack) e) in
    let done = same_set r.done s.done (ap (λ (x : State). x.done) e) in
    λ i. record {
      round = record { 0 = (e i).round };
      call = record { 0 = call i };
      freed = record { 0 = freed i };
      notify = notify i;
      grant = grant i;
      ack = ack i;
      done = done i;
    }
