-- Evidence: what is written for a claim, and what is answered of a list that is offered. Assumes nothing.
use Rattle.std.specs.Prelude.{◌≡◌, cond, ◌↔◌, ℕ, length, drop, Result, Ok, Err}
use mathlib.Core.List.{List, [], ◌∷◌, ◌++◌, Memᴰ}
use Rattle.lemmas.specs.Lists.{Ascending}
use Rattle.nodes.specs.Sets.{has, set_of}
use Rattle.waits.specs.declared.refusals.Refusal.{Refusal}
use Rattle.waits.specs.Waits.{Waits}
use Rattle.waits.specs.Deadlocked.{Deadlocked, Reachable, outside}
use Rattle.waits.specs.Rows.{waits_of}
use Rattle.deadlock.specs.declared.evidence.Judged.{Judged}
use Rattle.deadlock.specs.declared.evidence.Judged.TheVariants.{Passes, ClaimMissing, MemberSatisfied}
use Rattle.deadlock.specs.Refusals.{check_list_of, check_room_of}

-- Evidence for i: all deadlocked nodes that i reaches, itself among them, in ascending order; none if i itself isn't
-- deadlocked.
pub record Evidence (w : Waits) (i : ℕ) (l : List ℕ) : Type 0 where
  pub ascends : Ascending l
  pub members : (j : ℕ) → Memᴰ j l ↔ (Deadlocked w i × Deadlocked w j × Reachable w i j)

-- Of node i, with the lent bytes as found and as left: the refusal, and nothing is written; or how many bytes were written,
-- one for each node of the evidence, and the bytes after them stay.
abbrev pub WrittenSays : ℕ → List ℕ → ℕ → List ℕ → List ℕ → Result ℕ Refusal → Type 0
WrittenSays n rows i found left (Err r) = (check_room_of n rows i (length found) ≡ Err r) × (left ≡ found)
WrittenSays n rows i found left (Ok k) =
    (check_room_of n rows i (length found) ≡ Ok tt)
    × ((l : List ℕ) × Evidence (waits_of n rows) i l × (k ≡ length l) × (left ≡ l ++ drop k found))

-- Along a list, with the nodes of g granting: the first member whose condition holds; if there is none, the list passes.
abbrev pub first_satisfied : Waits → ℕ → List ℕ → Judged
first_satisfied w g [] = Passes
first_satisfied w g (j ∷ l) = cond (w.holds j g) (MemberSatisfied (record { 0 = j })) (first_satisfied w g l)

-- What is said of a list for node i: that i isn't in it comes first; then the members are asked, in the list's order, with every
-- node outside the list granting.
unfoldable pub judgement : Waits → ℕ → List ℕ → Judged
judgement w i l = cond (has (set_of l) i) (first_satisfied w (outside w l) l) ClaimMissing

-- the refusal, or that
abbrev pub judged : Result Unit Refusal → Judged → Result Judged Refusal
judged (Err r) j = Err r
judged (Ok u) j = Ok j

unfoldable pub judged_of : ℕ → List ℕ → ℕ → List ℕ → Result Judged Refusal
judged_of n rows i l = judged (check_list_of n rows i l) (judgement (waits_of n rows) i l)
