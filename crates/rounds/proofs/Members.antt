-- The bridge between sets and the theory: what a record says was sent, and when it is acked and complete, member by member. Above
-- this file no set of a record is taken apart. Assumes nothing.
use mathlib.Core.Path.{◌≡◌, refl, sym, subst}
use mathlib.Core.Bool.{Bool, true, false, cond, not, ◌||◌, true≢false, false≢true}
use mathlib.Core.Logic.{◌⊎◌, inl, inr, ⊎_elim, ◌↔◌}
use Prim.Native.Nat.{ℕ}
use borrow.Author.Tests.{not-true}
use Rattle.lemmas.proofs.Tests.{not_both, true_or_false, and_intro, and_left, and_right, or_cases, or_intro_left, or_intro_right}
use Rattle.nodes.specs.Sets.{In, inside}
use Rattle.nodes.proofs.Operations.{bit_single_same, in_union, in_meet, in_minus}
use Rattle.nodes.proofs.Inside.{inside_of, of_inside, inside_in, inside_member, none_in}
use Rattle.records.specs.declared.causes.Why.{Why}
use Rattle.records.specs.declared.causes.Why.TheVariants.{Not, Itself, By}
use Rattle.records.specs.declared.messages.Kind.{Kind}
use Rattle.records.specs.declared.messages.Kind.TheVariants.{Notify, Grant, Ack, Done}
use Rattle.records.specs.Causes.{happened, by_itself, sender_of}
use Rattle.records.specs.Records.{State, called, free}
use Rattle.step.specs.Step.{Seen, Receivers, active, acked, complete}
use Rattle.step.specs.Sent.{answered, sent, to_whom, Grows}

-- what happened was the node's own doing, or came from another node
pub happened_how : (why : Why) → happened why ≡ true → (by_itself why ≡ true) ⊎ ((j : ℕ) × In j (sender_of why))
happened_how Not e = absurd (false≢true e)
happened_how Itself e = inl refl
happened_how (By k) e = inr (k.0, bit_single_same k.0)

-- what came from a node happened
pub sender_happened : (why : Why) (j : ℕ) → In j (sender_of why) → happened why ≡ true
sender_happened Not j m = absurd (none_in 0 j refl m)
sender_happened Itself j m = refl
sender_happened (By k) j m = refl

-- so did what the node did by itself
pub itself_happened : (why : Why) → by_itself why ≡ true → happened why ≡ true
itself_happened Not e = e
itself_happened Itself e = e
itself_happened (By k) e = refl

in_cond : (b : Bool) (s j : ℕ) → In j (cond b s 0) ↔ ((b ≡ true) × In j s)
in_cond true s j = (λ m. (refl, m), λ p. p.1)
in_cond false s j = (λ m. absurd (none_in 0 j refl m), λ p. absurd (false≢true p.0))

in_answered : (b : Bool) (h t j : ℕ) → In j (answered b h t) ↔ (In j h × (In j t → b ≡ true))
in_answered true h t j = (λ m. (m, λ n. refl), λ p. p.0)
in_answered false h t j = (
  λ m. let p = (in_minus h t j).0 m in (p.0, λ n. absurd (p.1 n)),
  λ p. (in_minus h t j).1 (p.0, λ n. true≢false (sym (p.1 n))),
)

module _ (o : Seen) (s : State) where
  -- ---- who was sent what
  pub sent_notify : (j : ℕ) → In j (sent o s Notify) ↔ ((called s ≡ true) × In j o.out)
  sent_notify j = in_cond (called s) o.out j

  pub sent_grant : (j : ℕ) → In j (sent o s Grant) ↔ ((free s ≡ true) × In j o.ins)
  sent_grant j = in_cond (free s) o.ins j

  pub sent_ack : (j : ℕ) → In j (sent o s Ack) ↔ (In j s.grant × (In j (sender_of s.freed) → acked o s ≡ true))
  sent_ack j = in_answered (acked o s) s.grant (sender_of s.freed) j

  pub sent_done : (j : ℕ) → In j (sent o s Done) ↔ (In j s.notify × (In j (sender_of s.call) → complete o s ≡ true))
  sent_done j = in_answered (complete o s) s.notify (sender_of s.call) j

  -- ---- what a step adds: what was sent is what was sent before and what it sends, and none of that was sent before
  module _ (now : Receivers) (t : State) (g : Grows o s now t) (k : Kind) (j : ℕ) where
    pub sent_then : In j (sent o t k) ↔ (In j (sent o s k) ⊎ In j (to_whom now k))
    sent_then = subst (λ (x : ℕ). In j x ↔ (In j (sent o s k) ⊎ In j (to_whom now k))) (sym (g k).0) (in_union (sent o s k) (to_whom now k) j)

    pub sent_new : In j (to_whom now k) → In j (sent o s k) → ⊥
    sent_new m n = none_in _ j (g k).1 ((in_meet (sent o s k) (to_whom now k) j).1 (n, m))

  -- ---- what is in
  pub acked_iff : (acked o s ≡ true) ↔ ((free s ≡ true) × ((j : ℕ) → In j o.ins → In j s.ack))
  unfolding acked
  acked_iff = (
    λ e. (and_left (free s) _ e, λ j m. inside_member o.ins s.ack j (inside_of _ _ (and_right (free s) _ e)) m),
    λ p. and_intro (free s) _ p.0 (of_inside _ _ (inside_in _ _ p.1)),
  )

  -- of a called node: DONE from everybody that it waits on and, at an active one, ACK from everybody who waits on it
  pub complete_iff : (complete o s ≡ true)
      ↔ ((called s ≡ true) × ((j : ℕ) → In j o.out → In j s.done) × (active o ≡ true → (j : ℕ) → In j o.ins → In j s.ack))
  unfolding complete
  complete_iff = (
    λ e. (
      and_left (called s) _ e,
      λ j m. inside_member o.out s.done j (inside_of _ _ (and_left (inside o.out s.done) _ (and_right (called s) _ e))) m,
      λ a j m. inside_member o.ins s.ack j (inside_of _ _ (acks a (and_right (inside o.out s.done) _ (and_right (called s) _ e)))) m,
    ),
    λ p. and_intro (called s) _ p.0 (and_intro (inside o.out s.done) _ (of_inside _ _ (inside_in _ _ p.1)) (if_active p.2)),
  )
    where
      acks : active o ≡ true → (not (active o) || inside o.ins s.ack) ≡ true → inside o.ins s.ack ≡ true
      acks a e = ⊎_elim
          (λ (n : not (active o) ≡ true). absurd (not_both a (not-true (active o) n)))
          (λ (i : inside o.ins s.ack ≡ true). i)
          (or_cases (not (active o)) _ e)

      if_active : (active o ≡ true → (j : ℕ) → In j o.ins → In j s.ack) → (not (active o) || inside o.ins s.ack) ≡ true
      if_active f = elim (true_or_false (active o)) [
        | inl a ↦ or_intro_right (not (active o)) _ (of_inside _ _ (inside_in _ _ (f a)))
        | inr a ↦ or_intro_left (not (active o)) _ (subst (λ (b : Bool). not b ≡ true) (sym a) refl)
      ]
