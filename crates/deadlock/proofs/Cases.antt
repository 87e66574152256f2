-- What the callees said, over plain variables: facts that several functions of this crate cite. Assumes nothing.
use mathlib.Core.Path.{◌≡◌, refl, sym, ap, ap₂, ◌∙◌}
use mathlib.Core.Bool.{Bool, true, false, ◌&&◌, ◌||◌}
use mathlib.Core.Logic.{◌↔◌}
use mathlib.Core.List.{List, [], ◌∷◌, Memᴰ}
use Prim.Native.Nat.{ℕ, zero, suc, ◌+◌, ◌<◌}
use native.Mathlib.Numerals.{add-one}
use native.Mathlib.Omega.{arith}
use lib.Dec.{ltb}
use lib.ListN.{length, get_or, take}
use lib.Seq.{take-suc}
use borrow.Author.Tests.{leb-false, lt-leb}
use Rattle.std.specs.List.{list_any, IsAllAdjacentAnswer}
use Rattle.lemmas.specs.Lists.{any_of, ascending}
use Rattle.lemmas.proofs.Any.{any_none, none_at}
use Rattle.lemmas.proofs.Tests.{and_later}
use Rattle.nodes.specs.Sets.{meet, with, set_of, no_node}
use Rattle.nodes.proofs.Gather.{list_snoc}
use Rattle.waits.specs.declared.rows.Row.{Row}
use Rattle.waits.specs.Rows.{row_at, out_of}
use Rattle.deadlock.specs.Refusals.{strange_entry}

-- ---- rows
pub out_within : (rows : List ℕ) (k s : ℕ) {row : Row} {r o : ℕ} → r ≡ meet s o → o ≡ out_of row → row ≡ row_at rows k → r ≡ meet s (out_of (row_at rows k))
out_within rows k s e f g = e ∙ ap (meet s) (f ∙ ap out_of g)

-- ---- lists of bytes
-- what the library says of a test of some entry, and of each entry and the next
pub any_entry : (p : ℕ → Bool) (l : List ℕ) → list_any p l ≡ any_of p l
any_entry p [] = refl
any_entry p (a ∷ l) = ap (λ (b : Bool). p a || b) (any_entry p l)

pub each_below_next : (l : List ℕ) (r : Bool) → IsAllAdjacentAnswer (λ x y b. b ≡ ltb x y) l r → r ≡ ascending l
each_below_next [] true h = refl
each_below_next (a ∷ []) true h = refl
each_below_next (a ∷ b ∷ l) true h =
    ap₂ ◌&&◌ (h 0 0 (omega arith)) (each_below_next (b ∷ l) true (λ k d m. rw (add-one k) (rw (add-one (suc k)) at (h (suc k) d (omega arith)))))
each_below_next [] false (k, m, e) = absurd (omega arith)
each_below_next (a ∷ []) false (k, m, e) = absurd (omega arith)
each_below_next (a ∷ b ∷ l) false (zero, m, e) = ap (λ (t : Bool). t && ascending (b ∷ l)) (e 0)
each_below_next (a ∷ b ∷ l) false (suc k, m, e) =
    sym (and_later (ltb a b) (sym (each_below_next (b ∷ l) false (k, omega arith, λ d. rw (add-one k) (rw (add-one (suc k)) at (e d))))))

pub entry_node : (n : ℕ) (l : List ℕ) (at : ℕ) → at < length l → strange_entry n l ≡ false → get_or l at 0 < n
unfolding strange_entry no_node
entry_node n l at h e = leb-false n (get_or l at 0) (none_at (no_node n) l at h e)

pub entries_nodes : (n : ℕ) (l : List ℕ) → (strange_entry n l ≡ false) ↔ ((j : ℕ) → Memᴰ j l → j < n)
unfolding strange_entry no_node
entries_nodes n l = (
  λ e j m. leb-false n j ((any_none (no_node n) l).0 e j m),
  λ f. (any_none (no_node n) l).1 (λ j m. lt-leb n j (f j m)),
)

-- the nodes named so far, with one more
pub taken_one : (l : List ℕ) (at s : ℕ) {k r : ℕ} → at < length l → s ≡ set_of (take at l) → k ≡ get_or l at 0 → r ≡ with s k → r ≡ set_of (take (at + 1) l)
taken_one l at s h e f g =
    g ∙ ap₂ with e f ∙ list_snoc (take at l) (get_or l at 0) ∙ ap set_of (sym (ap (λ (x : ℕ). take x l) (add-one at) ∙ take-suc l at 0 h))

pub none_taken : 0 ≡ set_of []
unfolding set_of
none_taken = refl

-- what a walk that names the nodes of a list cites
pub ruleset naming = (entry_node, taken_one, none_taken)
