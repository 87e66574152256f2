-- The nodes called, the nodes free, and those called and not free, member by member. Assumes nothing.
use mathlib.Core.Path.{◌≡◌}
use mathlib.Core.Bool.{true, false}
use mathlib.Core.Logic.{◌↔◌}
use mathlib.Core.List.{Memᴰ}
use Prim.Native.Nat.{ℕ, ◌<◌}
use Rattle.lemmas.proofs.Tests.{not_both, not_true_false}
use Rattle.nodes.specs.Sets.{In, Inside, below}
use Rattle.nodes.proofs.Operations.{in_minus, in_below}
use Rattle.nodes.proofs.Inside.{inside_in}
use Rattle.nodes.proofs.Gather.{gather_in, in_gather}
use Rattle.nodes.proofs.Members.{members_in}
use Rattle.records.specs.Records.{called, free}
use Rattle.waits.specs.Waits.{Waits}
use Rattle.rounds.specs.Course.{Stage}
use Rattle.rounds.specs.Ends.{called_in, free_in, held_in}

module _ (w : Waits) (c : Stage) where
  pub called_below : Inside (called_in w c) (below w.nodes)
  unfolding called_in
  called_below = inside_in _ _ (λ i m. (in_below w.nodes i).1 (in_gather (λ j. called (c.records j)) w.nodes i m).0)

module _ (w : Waits) (c : Stage) (i : ℕ) where
  pub in_called : In i (called_in w c) ↔ ((i < w.nodes) × (called (c.records i) ≡ true))
  unfolding called_in
  in_called = (in_gather (λ j. called (c.records j)) w.nodes i, λ p. gather_in (λ j. called (c.records j)) w.nodes i p.0 p.1)

  pub in_free : In i (free_in w c) ↔ ((i < w.nodes) × (free (c.records i) ≡ true))
  unfolding free_in
  in_free = (in_gather (λ j. free (c.records j)) w.nodes i, λ p. gather_in (λ j. free (c.records j)) w.nodes i p.0 p.1)

  pub in_held : Memᴰ i (held_in w c) ↔ ((i < w.nodes) × (called (c.records i) ≡ true) × (free (c.records i) ≡ false))
  unfolding held_in
  in_held = (
    λ m.
        let p = (in_minus (called_in w c) (free_in w c) i).0 ((members_in _ i).0 m) in
        let q = in_called.0 p.0 in
        (q.0, q.1, not_true_false _ (λ e. p.1 (in_free.1 (q.0, e)))),
    λ p. (members_in _ i).1 ((in_minus (called_in w c) (free_in w c) i).1 (in_called.1 (p.0, p.1), λ m. not_both (in_free.0 m).1 p.2)),
  )
