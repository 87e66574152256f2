-- IN of a node has exactly the nodes that have it in OUT; and OUT and IN have only nodes. Assumes nothing.
use mathlib.Core.Logic.{◌↔◌}
use Prim.Native.Nat.{ℕ, ◌<◌}
use Rattle.nodes.specs.Sets.{In, Inside, has, below}
use Rattle.nodes.proofs.Bit.{has_in, in_has}
use Rattle.nodes.proofs.Operations.{in_below}
use Rattle.nodes.proofs.Inside.{inside_in}
use Rattle.nodes.proofs.Gather.{gather_in, in_gather}
use Rattle.waits.specs.Waits.{Waits, Lawful, in_of}

pub in_of_lem : (w : Waits) (j i : ℕ) → In i (in_of w j) ↔ ((i < w.nodes) × In j (w.out i))
unfolding in_of
in_of_lem w j i = (
  λ m. let g = in_gather (λ k. has (w.out k) j) w.nodes i m in (g.0, has_in (w.out i) j g.1),
  λ p. gather_in (λ k. has (w.out k) j) w.nodes i p.0 (in_has (w.out i) j p.1),
)

pub out_inside : (w : Waits) → Lawful w → (i : ℕ) → i < w.nodes → Inside (w.out i) (below w.nodes)
out_inside w lawful i h = inside_in _ _ (λ j m. (in_below w.nodes j).1 (lawful.closed i j h m))

pub ins_inside : (w : Waits) (j : ℕ) → Inside (in_of w j) (below w.nodes)
ins_inside w j = inside_in _ _ (λ i m. (in_below w.nodes i).1 ((in_of_lem w j i).0 m).0)
