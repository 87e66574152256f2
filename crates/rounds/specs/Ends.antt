-- What the end of a round looks like. Assumes nothing.
use Rattle.std.specs.Prelude.{◌≡◌, true, ℕ}
use mathlib.Core.List.{List, Memᴰ}
use Rattle.lemmas.specs.Lists.{total}
use Rattle.nodes.specs.Sets.{minus, members, size, gather}
use Rattle.records.specs.Records.{called, free}
use Rattle.waits.specs.Waits.{Waits, in_of}
use Rattle.waits.specs.Deadlocked.{Reduction, Reachable}
use Rattle.rounds.specs.Course.{Stage}

-- the nodes that are called, and those that are free
unfoldable pub called_in : Waits → Stage → ℕ
called_in w c = gather (λ i. called (c.records i)) w.nodes

unfoldable pub free_in : Waits → Stage → ℕ
free_in w c = gather (λ i. free (c.records i)) w.nodes

-- the nodes called and not free, ascending
unfoldable pub held_in : Waits → Stage → List ℕ
held_in w c = members (minus (called_in w c) (free_in w c))

-- A reduction that starts only from active nodes reachable from s.
abbrev pub ReductionFrom : Waits → ℕ → List ℕ → Type 0
ReductionFrom w s l = Reduction w l × ((i : ℕ) → Memᴰ i l → w.holds i 0 ≡ true → Reachable w s i)

-- such a reduction frees i
abbrev pub FreedFrom : Waits → ℕ → ℕ → Type 0
FreedFrom w s i = (l : List ℕ) × ReductionFrom w s l × Memᴰ i l

-- the edges that leave the nodes of a set: the members of each one's OUT
unfoldable pub leaving : Waits → ℕ → ℕ
leaving w s = total (λ i. size (w.out i)) (members s)

-- the edges that enter them: the members of each one's IN
unfoldable pub entering : Waits → ℕ → ℕ
entering w s = total (λ i. size (in_of w i)) (members s)
