-- What an event does is of its own round: the messages that it sends, and the record that it changes. Assumes nothing.
use mathlib.Core.Path.{◌≡◌, refl, sym, ap, ◌∙◌, subst}
use mathlib.Core.Logic.{◌⊎◌, inl, inr}
use mathlib.Core.List.{List, [], ◌++◌, append-nil, Memᴰ}
use Prim.Native.Nat.{ℕ, ◌≤◌, ◌<◌}
use native.Mathlib.Omega.{arith}
use Rattle.nodes.specs.Sets.{members_from, members}
use Rattle.records.specs.Messages.{Letter}
use Rattle.records.specs.Records.{State, in_round}
use Rattle.records.proofs.Higher.{not_behind, in_round_at}
use Rattle.records.proofs.Marks.{mark_round}
use Rattle.waits.specs.Waits.{Waits}
use Rattle.std.specs.Prelude.{Result, Ok}
use Rattle.waits.specs.declared.refusals.Refusal.{Refusal}
use Rattle.step.specs.declared.answers.Answer.{Answer}
use Rattle.step.specs.Step.{Outcome, seen_in, nobody, still, open_round, take, receive}
use Rattle.step.specs.Letters.{letters_of}
use Rattle.step.proofs.Letters.{letter_in}
use Rattle.step.proofs.Local.{takes_or_stays}
use Rattle.step.proofs.Taken.{take_follows, open_begins}
use Rattle.rounds.specs.Course.{Stage, joined}
use Rattle.rounds.proofs.Put.{put_still}

-- what node i sends
abbrev pub sent_by : ℕ → Outcome → List Letter
sent_by i out = letters_of i out.state.round out.sends

pub still_sends : (i round : ℕ) → letters_of i round nobody ≡ []
unfolding letters_of members members_from
still_sends i round = refl

-- where the record stays and nothing is sent, nothing changes
pub still_joined : (c : Stage) (i : ℕ) (a : Result Answer Refusal) → joined c i (still (c.records i) a) ≡ c
still_joined c i a = λ j. record {
  records = λ k. put_still c.records i (c.records i) refl k j;
  sent = (ap (λ (x : List Letter). c.sent ++ x) (still_sends i (c.records i).round) ∙ append-nil c.sent) j;
}

-- of a round, at node i with the record r
pub record Effect (round i : ℕ) (r : State) (out : Outcome) : Type 0 where
  pub letters : (m : Letter) → Memᴰ m (sent_by i out) → m.round ≡ round
  pub state : (out.state ≡ r) ⊎ ((out.state.round ≡ round) × (r.round ≤ round))

in_round_letters : (round i : ℕ) (out : Outcome) → out.state.round ≡ round → (m : Letter) → Memᴰ m (sent_by i out) → m.round ≡ round
in_round_letters round i out e m h = ((letter_in i out.state.round out.sends m).0 h).1 ∙ e

-- an opening, above the record's round
pub open_effect : (w : Waits) (i round : ℕ) (r : State) → r.round < round → Effect round i r (open_round (seen_in w i) round)
open_effect w i round r h =
    let at = (open_begins (seen_in w i) round).at in
    record { letters = in_round_letters round i (open_round (seen_in w i) round) at; state = inr (at, omega arith) }

-- a message
module _ (w : Waits) (r : State) (m : Letter) where
  stays_effect : (a : Answer) → Effect m.round m.to r (still r (Ok a))
  stays_effect a = record {
    letters = λ x h. absurd (elim (subst (λ (l : List Letter). Memᴰ x l) (still_sends m.to r.round) h) [ ]);
    state = inl refl;
  }

  pub receive_effect : Effect m.round m.to r (receive (seen_in w m.to) r m)
  receive_effect = elim (takes_or_stays (seen_in w m.to) r m) [
    | inl t ↦
        let now = in_round m.round r in
        let at = (take_follows (seen_in w m.to) now m).round ∙ mark_round m.from now m.kind ∙ in_round_at m.round r t.2 in
        subst (Effect m.round m.to r) (sym t.0) (record { letters = in_round_letters m.round m.to (take (seen_in w m.to) now m) at; state = inr (at, not_behind m.round r.round t.2) })
    | inr t ↦ subst (Effect m.round m.to r) (sym t.1) (stays_effect t.0)
  ]
