-- A set of the code is determined by the number that it is, and a walk over one by the members to come, so a promise of these leaves one
-- result. Assumes nothing.
use mathlib.Core.Path.{◌≡◌, refl, sym, ap, ◌∙◌}
use Prim.Native.Nat.{ℕ}
use Rattle.nodes.specs.declared.Set.{Set}
use Rattle.nodes.specs.declared.InTurn.{InTurn}
use Rattle.nodes.specs.Sets.{set_of}
use Rattle.nodes.specs.Words.{num, as_set, to_come}
use Rattle.nodes.proofs.Members.{set_members}

pub same_set : (r s : Set) → num r ≡ num s → r ≡ s
unfolding num
same_set r s e = λ i. record { 0 = e i }

pub num_as : (n : ℕ) → num (as_set n) ≡ n
unfolding num as_set
num_as n = refl

pub as_num : (s : Set) → as_set (num s) ≡ s
unfolding num as_set
as_num s = refl

pub same_walk : (r s : InTurn) → to_come r ≡ to_come s → r ≡ s
unfolding to_come
same_walk r s e =
    let left : r.left ≡ s.left = same_set _ _ (sym (set_members (num r.left)) ∙ ap set_of e ∙ set_members (num s.left)) in
    λ i. record { left = left i }
