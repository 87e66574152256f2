-- Every course of a round: the invariant, the messages sent, and that those had are those delivered. Assumes nothing.
use mathlib.Core.Path.{◌≡◌, refl, sym, ap, ◌∙◌, subst}
use mathlib.Core.Bool.{true}
use mathlib.Core.Logic.{inl, inr, ⊎_elim}
use mathlib.Core.List.{List, [], ◌∷◌, Memᴰ}
use mathlib.Core.List.Memᴰ.{head as here}
use mathlib.Core.List.Memᴰ.{tail as there}
use Prim.Native.Nat.{ℕ, ◌<◌}
use Rattle.nodes.specs.Sets.{In}
use Rattle.nodes.proofs.Inside.{none_in}
use Rattle.records.specs.declared.messages.Kind.{Kind}
use Rattle.records.specs.Causes.{by_itself}
use Rattle.records.specs.Messages.{Letter}
use Rattle.records.specs.Records.{State, had_of}
use Rattle.records.proofs.Marks.{blank_had}
use Rattle.waits.specs.Waits.{Waits, Lawful}
use Rattle.step.specs.Step.{seen_in, open_round}
use Rattle.step.specs.Letters.{letter}
use Rattle.step.proofs.Taken.{open_begins}
use Rattle.rounds.specs.Course.{Stage, joined, unheard, reply, delivery, after, Course}
use Rattle.rounds.proofs.Members.{itself_happened}
use Rattle.rounds.proofs.Put.{put_same, put_all}
use Rattle.rounds.proofs.Invariant.{Invariant, keep}
use Rattle.rounds.proofs.Sending.{Sending, sending_on}
use Rattle.rounds.proofs.Openings.{unheard_invariant, unheard_sending, opening_goes}
use Rattle.rounds.proofs.Delivery.{to_node, delivery_goes, delivery_had}

-- those had are those delivered
pub record Having (w : Waits) (round : ℕ) (c : Stage) (l : List Letter) : Type 0 where
  pub delivered : (b : ℕ) → b < w.nodes → (k : Kind) (a : ℕ) → In a (had_of k (c.records b)) → Memᴰ (letter k a b round) l
  pub had : (m : Letter) → Memᴰ m l → In m.from (had_of m.kind (c.records m.to))

pub record Good (w : Waits) (s round : ℕ) (c : Stage) (l : List Letter) : Type 0 where
  pub invariant : Invariant w s round c.records
  pub sending : Sending w round c
  pub having : Having w round c l
  pub began : by_itself (c.records s).call ≡ true

-- ---- the opening
module _ (w : Waits) (lawful : Lawful w) (s : ℕ) (node : s < w.nodes) (round : ℕ) where
  opening_having : Having w round (joined (unheard round) s (open_round (seen_in w s) round)) []
  opening_having = record {
    delivered = put_all (λ b r. b < w.nodes → (k : Kind) (a : ℕ) → In a (had_of k r) → Memᴰ (letter k a b round) []) (unheard round).records s (open_round (seen_in w s) round).state
        (λ h k a m. absurd (none_in _ a ((open_begins (seen_in w s) round).had k) m))
        (λ b d h k a m. absurd (none_in _ a (blank_had k round) m));
    had = λ m i. absurd (elim i [ ]);
  }

  opening_good : Good w s round (joined (unheard round) s (open_round (seen_in w s) round)) []
  opening_good =
      let v = unheard_invariant w lawful s node round in
      let g = opening_goes w lawful s node round in
      record {
        invariant = keep v g;
        sending = sending_on v (unheard_sending w lawful s node round) s (open_round (seen_in w s) round) g;
        having = opening_having;
        began = ap (λ (x : State). by_itself x.call) (put_same (unheard round).records s (open_round (seen_in w s) round).state) ∙ (open_begins (seen_in w s) round).opener;
      }

-- ---- a message that was sent is delivered
module _ {w : Waits} {s round : ℕ} {c : Stage} {l : List Letter} (good : Good w s round c l) (m : Letter) (i : Memᴰ m c.sent) where
  abbrev then : Stage
  then = delivery w c m

  delivered_then : (k : Kind) (a : ℕ) → In a (had_of k (reply w c m).state) → Memᴰ (letter k a m.to round) (m ∷ l)
  delivered_then k a h =
      ⊎_elim
      (λ (g : In a (had_of k (c.records m.to))). there (good.having.delivered m.to (to_node good.invariant good.sending m i) k a g))
      (λ (g : (k ≡ m.kind) × (a ≡ m.from)). here (λ j. record { kind = g.0 j; from = g.1 j; to = m.to; round = sym (good.sending.said m i).0 j }))
      ((delivery_had good.invariant good.sending m i k a).0 h)

  had_still : (b : ℕ) (k : Kind) (a : ℕ) → In a (had_of k (c.records b)) → In a (had_of k (then.records b))
  had_still = put_all (λ b x. (k : Kind) (a : ℕ) → In a (had_of k (c.records b)) → In a (had_of k x)) c.records m.to (reply w c m).state
      (λ k a h. (delivery_had good.invariant good.sending m i k a).1 (inl h))
      (λ b d k a h. h)

  had_now : In m.from (had_of m.kind (then.records m.to))
  had_now = subst (λ (x : State). In m.from (had_of m.kind x)) (sym (put_same c.records m.to (reply w c m).state))
      ((delivery_had good.invariant good.sending m i m.kind m.from).1 (inr (refl, refl)))

  had_then : (n : Letter) → Memᴰ n (m ∷ l) → In n.from (had_of n.kind (then.records n.to))
  had_then n (here e) = subst (λ (x : Letter). In x.from (had_of x.kind (then.records x.to))) (sym e) had_now
  had_then n (there j) = had_still n.to n.kind n.from (good.having.had n j)

  delivery_having : Having w round then (m ∷ l)
  delivery_having = record {
    delivered = put_all (λ b x. b < w.nodes → (k : Kind) (a : ℕ) → In a (had_of k x) → Memᴰ (letter k a b round) (m ∷ l)) c.records m.to (reply w c m).state
        (λ h. delivered_then)
        (λ b d h k a g. there (good.having.delivered b h k a g));
    had = had_then;
  }

  delivery_good : Good w s round then (m ∷ l)
  delivery_good =
      let g = delivery_goes good.invariant good.sending m i in
      record {
        invariant = keep good.invariant g;
        sending = sending_on good.invariant good.sending m.to (reply w c m) g;
        having = delivery_having;
        began = put_all (λ k x. by_itself (c.records k).call ≡ true → by_itself x.call ≡ true) c.records m.to (reply w c m).state
            (λ e. ap by_itself (g.call (itself_happened (c.records m.to).call e)) ∙ e)
            (λ k d e. e)
            s good.began;
      }

-- Theorem: all of it holds at every time in every course.
pub course_good : (w : Waits) → Lawful w → (s : ℕ) → s < w.nodes → (round : ℕ) (l : List Letter) → Course w s round l → Good w s round (after w s round l) l
unfolding after
course_good w lawful s node round [] e = opening_good w lawful s node round
course_good w lawful s node round (m ∷ l) e = delivery_good (course_good w lawful s node round l e.1) m e.0
