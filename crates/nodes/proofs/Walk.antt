-- What a walk over the first k places of a set has seen: for every width. Assumes nothing.
use mathlib.Core.Path.{◌≡◌, ap, ◌∙◌}
use mathlib.Core.Bool.{Bool, true, false}
use mathlib.Core.List.{List, [], ◌∷◌, ◌++◌, append-nil}
use Prim.Native.Nat.{ℕ, ◌+◌, ◌%◌, ◌^◌, ◌≤◌}
use native.Mathlib.Omega.{arith}
use lib.ListN.{length}
use Rattle.nodes.specs.Sets.{has, Inside, below, only, members}
use Rattle.nodes.proofs.Inside.{inside_lt}
use Rattle.nodes.proofs.Members.{members_suc, members_none, members_all}
use Rattle.nodes.proofs.Size.{size_members, size_below}

-- the members among the first k places, ascending
unfoldable pub listed : ℕ → ℕ → List ℕ
listed s k = members (s % 2 ^ k)

pub listed_none : (s : ℕ) → listed s 0 ≡ []
unfolding listed
listed_none s = members_none s

pub listed_yes : (s k : ℕ) → has s k ≡ true → listed s (k + 1) ≡ listed s k ++ k ∷ []
unfolding listed
listed_yes s k e = members_suc s k ∙ ap (λ (b : Bool). members (s % 2 ^ k) ++ only b k) e

pub listed_no : (s k : ℕ) → has s k ≡ false → listed s (k + 1) ≡ listed s k
unfolding listed
listed_no s k e = members_suc s k ∙ ap (λ (b : Bool). members (s % 2 ^ k) ++ only b k) e ∙ append-nil _

pub listed_length : (s k : ℕ) → length (listed s k) ≤ k
unfolding listed
listed_length s k = omega (arith, size_below s k, size_members (s % 2 ^ k))

pub listed_all : (n s : ℕ) → Inside s (below n) → listed s n ≡ members s
unfolding listed
listed_all n s h = members_all n s (inside_lt n s h)
