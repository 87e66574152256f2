-- Every course of a round can go on to the round's end, so that what is said of the end is said of something. Assumes nothing.
use mathlib.Core.Path.{◌≡◌, refl, sym, subst}
use mathlib.Core.Bool.{true}
use mathlib.Core.Logic.{◌⊎◌, inl, inr}
use mathlib.Core.List.Memᴰ
use mathlib.Core.List.{List, [], ◌∷◌, ◌++◌, Memᴰ}
use mathlib.Core.List.Memᴰ.{head as here}
use mathlib.Core.List.Memᴰ.{tail as there}
use Prim.Native.Nat.{ℕ, zero, suc, ◌+◌, ◌*◌, ◌≤◌, ◌<◌}
use native.Mathlib.Omega.{arith}
use lib.ListN.{length}
use Rattle.lemmas.specs.Lists.{Once}
use Rattle.lemmas.proofs.Once.{no_longer}
use Rattle.records.specs.Messages.{Letter}
use Rattle.waits.specs.Waits.{Waits, Lawful, edges}
use Rattle.rounds.specs.Course.{after, Course, ended}
use Rattle.rounds.proofs.OneRound.{one_round}

module _ (w : Waits) (lawful : Lawful w) (s : ℕ) (node : s < w.nodes) (round : ℕ) where
  -- the messages sent after those of l were delivered
  abbrev sent_by : List Letter → List Letter
  sent_by l = (after w s round l).sent

  -- what was delivered had been sent, and what was sent stays in the list
  delivered_sent : (l : List Letter) → Course w s round l → (m : Letter) → Memᴰ m l → Memᴰ m (sent_by l)
  unfolding after
  delivered_sent (n ∷ l) e m (here q) = Memᴰ.append_left _ (subst (λ (x : Letter). Memᴰ x (sent_by l)) (sym q) e.0)
  delivered_sent (n ∷ l) e m (there i) = Memᴰ.append_left _ (delivered_sent l e.1 m i)
  delivered_sent [] e m x'' = elim x'' [ ]

  -- so messages that are delivered, none of them twice, are at most four an edge
  few : (k l : List Letter) → Course w s round (k ++ l) → Once k → length k ≤ 4 * edges w
  few k l c once =
      let a = no_longer k (sent_by (k ++ l)) once (λ m i. delivered_sent (k ++ l) c m (Memᴰ.append_left l i)) in
      let b = (one_round w lawful s node round (k ++ l) c).at_most_four in
      omega arith

  -- of some messages that were sent, all were delivered or there is one that wasn't
  withheld : (l : List Letter) → Course w s round l → (some : List Letter)
      → ((m : Letter) → Memᴰ m some → Memᴰ m (sent_by l))
      → ((m : Letter) → Memᴰ m some → Memᴰ m l) ⊎ ((m : Letter) × Memᴰ m (sent_by l) × (Memᴰ m l → ⊥))
  withheld l c [] sent = inl (λ m i. absurd (elim i [ ]))
  withheld l c (n ∷ some) sent = elim ((one_round w lawful s node round l c).never_stray n (sent n (here refl))) [
    | inl p ↦ elim (withheld l c some (λ m i. sent m (there i))) [
      | inl all ↦ inl (λ m i. either m i p.1 (all m))
      | inr one ↦ inr one
    ]
    | inr p ↦ inr (n, sent n (here refl), p.1)
  ]
    where
      either : (m : Letter) → Memᴰ m (n ∷ some) → Memᴰ n l → (Memᴰ m some → Memᴰ m l) → Memᴰ m l
      either m (here q) i f = subst (λ (x : Letter). Memᴰ x l) (sym q) i
      either m (there j) i f = f j

  -- after l and some more messages the round has ended
  abbrev Ends : List Letter → Type 0
  Ends l = (k : List Letter) × Course w s round (k ++ l) × (ended w s (after w s round (k ++ l)) ≡ true)

  -- one message after another that was sent and not delivered, until there is none: k are those since l, and there can't be more than
  -- four an edge
  onward : (fuel : ℕ) (k l : List Letter) → Course w s round (k ++ l) → Once k → 4 * edges w < fuel + length k → Ends l
  onward zero k l c once h = absurd (let a = few k l c once in omega arith)
  onward (suc fuel) k l c once h = elim (withheld (k ++ l) c (sent_by (k ++ l)) (λ m i. i)) [
    | inl all ↦ (k, c, (one_round w lawful s node round (k ++ l) c).it_ends all)
    | inr p ↦ onward fuel (p.0 ∷ k) l (p.1, c) (λ i. p.2 (Memᴰ.append_left l i), once) (omega arith)
  ]

  -- Theorem: every course can go on to one that has ended.
  pub can_end : (l : List Letter) → Course w s round l
      → (k : List Letter) × Course w s round (k ++ l) × (ended w s (after w s round (k ++ l)) ≡ true)
  can_end l c = onward (suc (4 * edges w)) [] l c tt (omega arith)
