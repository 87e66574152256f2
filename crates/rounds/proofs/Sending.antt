-- The messages sent in a round are those that the records say were sent, each once; and a step keeps it so. Assumes nothing.
use mathlib.Core.Path.{◌≡◌, refl, sym, ◌∙◌, subst}
use mathlib.Core.Logic.{inr, ⊎_elim}
use mathlib.Core.List.Memᴰ
use mathlib.Core.List.{List, ◌++◌, Memᴰ}
use Prim.Native.Nat.{ℕ, ◌<◌}
use Rattle.lemmas.specs.Lists.{Once}
use Rattle.lemmas.proofs.Once.{once_append}
use Rattle.nodes.specs.Sets.{In}
use Rattle.records.specs.declared.messages.Kind.{Kind}
use Rattle.records.specs.Messages.{Letter}
use Rattle.records.specs.Records.{State}
use Rattle.waits.specs.Waits.{Waits}
use Rattle.step.specs.Step.{Outcome, seen_in}
use Rattle.step.specs.Sent.{sent, to_whom}
use Rattle.step.specs.Letters.{letter, letters_of}
use Rattle.step.proofs.Letters.{letter_in, letters_once}
use Rattle.rounds.specs.Course.{Stage, put, joined}
use Rattle.rounds.proofs.Members.{sent_then, sent_new}
use Rattle.rounds.proofs.Put.{put_same, put_all}
use Rattle.rounds.proofs.Invariant.{Says, Invariant, Goes, says_still}

pub record Sending (w : Waits) (round : ℕ) (c : Stage) : Type 0 where
  pub said : (m : Letter) → Memᴰ m c.sent → (m.round ≡ round) × (m.from < w.nodes) × Says w c.records m.from m.kind m.to
  pub listed : (a : ℕ) → a < w.nodes → (k : Kind) (b : ℕ) → Says w c.records a k b → Memᴰ (letter k a b round) c.sent
  pub once : Once c.sent

module _ {w : Waits} {s round : ℕ} {c : Stage} (v : Invariant w s round c.records) (sending : Sending w round c)
    (b : ℕ) (out : Outcome) (g : Goes w s round c.records b out.sends out.state) where
  abbrev new : List Letter
  new = letters_of b out.state.round out.sends

  abbrev next : ℕ → State
  next = put c.records b out.state

  said_new : (m : Letter) → Memᴰ m new → (m.round ≡ round) × (m.from < w.nodes) × Says w next m.from m.kind m.to
  said_new m i =
      let p = (letter_in b out.state.round out.sends m).0 i in
      let t = (sent_then (seen_in w b) (c.records b) out.sends out.state g.grows m.kind m.to).1 (inr p.2) in (
        p.1 ∙ g.at,
        subst (λ (x : ℕ). x < w.nodes) (sym p.0) g.node,
        subst (λ (x : ℕ). Says w next x m.kind m.to) (sym p.0) (subst (λ (x : State). In m.to (sent (seen_in w b) x m.kind)) (sym (put_same c.records b out.state)) t),
      )

  listed_new : (k : Kind) (j : ℕ) → In j (sent (seen_in w b) out.state k) → Memᴰ (letter k b j round) (c.sent ++ new)
  listed_new k j i =
      ⊎_elim
      (λ (o : Says w c.records b k j). Memᴰ.append_left new (sending.listed b g.node k j o))
      (λ (o : In j (to_whom out.sends k)). Memᴰ.append_right c.sent ((letter_in b out.state.round out.sends (letter k b j round)).1 (refl, sym g.at, o)))
      ((sent_then (seen_in w b) (c.records b) out.sends out.state g.grows k j).0 i)

  -- nothing that a step sends was sent before
  apart : (m : Letter) → Memᴰ m c.sent → Memᴰ m new → ⊥
  apart m i j =
      let p = (letter_in b out.state.round out.sends m).0 j in
      sent_new (seen_in w b) (c.records b) out.sends out.state g.grows m.kind m.to p.2
      (subst (λ (x : ℕ). Says w c.records x m.kind m.to) p.0 (sending.said m i).2)

  pub sending_on : Sending w round (joined c b out)
  sending_on = record {
    said = λ m i. ⊎_elim
        (λ (o : Memᴰ m c.sent). let p = sending.said m o in (p.0, p.1, says_still v g m.from m.kind m.to p.2))
        (λ (o : Memᴰ m new). said_new m o)
        (Memᴰ.append_cases c.sent i);
    listed = put_all (λ a r. a < w.nodes → (k : Kind) (j : ℕ) → In j (sent (seen_in w a) r k) → Memᴰ (letter k a j round) (c.sent ++ new)) c.records b out.state
        (λ h. listed_new)
        (λ a d h k j i. Memᴰ.append_left new (sending.listed a h k j i));
    once = once_append c.sent new sending.once (letters_once b out.state.round out.sends) apart;
  }
