-- The cases of the definitions that the code decides, over plain variables. Assumes nothing.
use mathlib.Core.Path.{◌≡◌, refl, sym, ap, ◌∙◌}
use mathlib.Core.Bool.{Bool, true, false}
use mathlib.Core.List.{List}
use Prim.Native.Nat.{ℕ, ◌+◌, ◌*◌, ◌≤◌, ◌<◌}
use native.Mathlib.Numerals.{add-one}
use lib.Dec.{ltb, eqb}
use borrow.Author.Tests.{lt-ltb, le-ltb, ltb-false, eqb-true, not-false}
use Rattle.lemmas.proofs.Tests.{or_left_false, or_right_false}
use Rattle.nodes.specs.Sets.{has, size}
use Rattle.nodes.specs.Words.{places}
use Rattle.waits.specs.declared.rows.Row.{Row}
use Rattle.waits.specs.Waits.{Waits, edges_to, edges}
use Rattle.waits.specs.Rows.{row_size, row_at, out_of, waits_of}
use Rattle.waits.specs.Numbers.{most_edges, strange_count, wrong_count, many_edges}

-- what a count that isn't strange says, and a right one
pub count_fits : (n : ℕ) → strange_count n ≡ false → n ≤ places
unfolding strange_count
count_fits n e = ltb-false places n (or_right_false (eqb n 0) _ e)

pub right_count : (n m : ℕ) → wrong_count n m ≡ false → (n ≤ places) × (m ≡ n * row_size)
unfolding wrong_count
right_count n m e = (count_fits n (or_left_false (strange_count n) _ e), eqb-true m (n * row_size) (not-false _ (or_right_false (strange_count n) _ e)))

-- a node has another in OUT, from what the callees said
pub waits_on : (rows : List ℕ) (k j : ℕ) {row : Row} {o : ℕ} {r b : Bool} → r ≡ has o j → o ≡ out_of row → row ≡ row_at rows k → r ≡ b
    → has (out_of (row_at rows k)) j ≡ b
waits_on rows k j e f g h = sym (e ∙ ap (λ (x : ℕ). has x j) (f ∙ ap out_of g)) ∙ h

-- the edges of one node more
pub edges_none : (w : Waits) → edges_to w 0 ≡ 0
unfolding edges_to
edges_none w = refl

pub edges_suc : (w : Waits) (k : ℕ) → edges_to w (k + 1) ≡ edges_to w k + size (w.out k)
unfolding edges_to
edges_suc w k = rw (add-one k)

pub many : (n : ℕ) (rows : List ℕ) {e : ℕ} → e ≡ edges (waits_of n rows) → most_edges < e → many_edges n rows ≡ true
unfolding many_edges
many n rows q h = ap (ltb most_edges) (sym q) ∙ lt-ltb _ _ h

pub few : (n : ℕ) (rows : List ℕ) {e : ℕ} → e ≡ edges (waits_of n rows) → e ≤ most_edges → many_edges n rows ≡ false
unfolding many_edges
few n rows q h = ap (ltb most_edges) (sym q) ∙ le-ltb _ _ h
