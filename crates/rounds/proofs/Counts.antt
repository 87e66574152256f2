-- How many messages a round sends: at no time more than four an edge, and at its end as many as the nodes called and free say.
-- Assumes nothing.
use mathlib.Core.Path.{◌≡◌, sym, ◌∙◌, subst}
use mathlib.Core.List.{Memᴰ}
use Prim.Native.Nat.{ℕ, ◌+◌, ◌*◌, ◌≤◌, ◌<◌}
use native.Mathlib.Omega.{arith}
use lib.ListN.{length}
use Rattle.lemmas.proofs.Once.{no_longer, same_length}
use Rattle.nodes.specs.Sets.{In}
use Rattle.records.specs.declared.messages.Kind.{Kind}
use Rattle.records.specs.declared.messages.Kind.TheVariants.{Notify, Grant, Ack, Done}
use Rattle.records.specs.Messages.{Letter}
use Rattle.waits.specs.Waits.{Waits, edges}
use Rattle.step.specs.Step.{seen_in}
use Rattle.step.specs.Letters.{letter}
use Rattle.rounds.specs.Course.{Stage}
use Rattle.rounds.specs.Ends.{called_in, free_in, leaving, entering}
use Rattle.rounds.proofs.Members.{sent_notify, sent_grant}
use Rattle.rounds.proofs.Invariant.{Says, Invariant}
use Rattle.rounds.proofs.Neighbours.{granted_by, notified_by}
use Rattle.rounds.proofs.Sending.{Sending}
use Rattle.rounds.proofs.Ended.{Complete, done_had, ack_had}
use Rattle.rounds.proofs.Sets.{in_called, called_below, in_free}
use Rattle.rounds.proofs.Due.{Along, Owed, due, due_in, due_once, due_length, leaving_le, entering_le}

module _ {w : Waits} {s round : ℕ} {c : Stage} (v : Invariant w s round c.records) (sending : Sending w round c) where
  -- ---- what was sent is owed by those called and free
  calls_on : (a b : ℕ) → (a < w.nodes) × Says w c.records a Notify b → In a (called_in w c) × In b (w.out a)
  calls_on a b p = let q = (sent_notify (seen_in w a) (c.records a) b).0 p.1 in ((in_called w c a).1 (p.0, q.0), q.1)

  grants_to : (a b : ℕ) → (a < w.nodes) × Says w c.records a Grant b → In a (free_in w c) × In b (seen_in w a).ins
  grants_to a b p = let q = (sent_grant (seen_in w a) (c.records a) b).0 p.1 in ((in_free w c a).1 (p.0, q.0), q.1)

  along : (k : Kind) (a b : ℕ) → a < w.nodes → Says w c.records a k b → Along w (called_in w c) (free_in w c) k a b
  along Notify a b n m = calls_on a b (n, m)
  along Grant a b n m = grants_to a b (n, m)
  along Ack a b n m = grants_to b a (granted_by v a n b m)
  along Done a b n m = calls_on b a (notified_by v a n b m)

  sent_owed : (m : Letter) → Memᴰ m c.sent → Owed w round (called_in w c) (free_in w c) m
  sent_owed m i = let p = sending.said m i in (p.0, along m.kind m.from m.to p.1 p.2)

  pub four_an_edge : length c.sent ≤ 4 * edges w
  four_an_edge =
      let n = no_longer c.sent (due w round (called_in w c) (free_in w c)) sending.once (λ m i. (due_in w round _ _ m).1 (sent_owed m i)) in
      let d = due_length w round (called_in w c) (free_in w c) in
      let x = leaving_le w (called_in w c) (called_below w c) in
      let y = entering_le w (free_in w c) in
      omega arith

  -- ---- at the end all that is owed was sent
  module _ (end : Complete w c.records s) where
    says : (k : Kind) (a b : ℕ) → Along w (called_in w c) (free_in w c) k a b → (a < w.nodes) × Says w c.records a k b
    says Notify a b p = let q = (in_called w c a).0 p.0 in (q.0, (sent_notify (seen_in w a) (c.records a) b).1 (q.1, p.1))
    says Grant a b p = let q = (in_free w c a).0 p.0 in (q.0, (sent_grant (seen_in w a) (c.records a) b).1 (q.1, p.1))
    says Ack a b p = let q = (in_free w c b).0 p.0 in v.took Ack a b q.0 (ack_had v end b a q.1 p.1)
    says Done a b p = let q = (in_called w c b).0 p.0 in v.took Done a b q.0 (done_had v end b a q.1 p.1)

    owed_sent : (m : Letter) → Owed w round (called_in w c) (free_in w c) m → Memᴰ m c.sent
    owed_sent m o =
        let p = says m.kind m.from m.to o.1 in
        subst (λ (x : ℕ). Memᴰ (letter m.kind m.from m.to x) c.sent) (sym o.0) (sending.listed m.from p.0 m.kind m.to p.1)

    pub all_owed : length c.sent ≡ 2 * leaving w (called_in w c) + 2 * entering w (free_in w c)
    all_owed =
        same_length c.sent (due w round (called_in w c) (free_in w c)) sending.once (due_once w round _ _)
        (λ m. (λ i. (due_in w round _ _ m).1 (sent_owed m i), λ i. owed_sent m ((due_in w round _ _ m).0 i)))
        ∙ due_length w round (called_in w c) (free_in w c)
