-- The number and the row of a refusal that the table gives are small: a byte holds each. Assumes nothing.
use mathlib.Core.Path.{◌≡◌, refl, sym, subst}
use mathlib.Core.Bool.{Bool, true, false, cond, ◌&&◌}
use mathlib.Core.List.{List, [], ◌∷◌, ◌++◌}
use Prim.Native.Nat.{ℕ, zero, suc, ◌+◌, ◌≤◌, ◌<◌}
use native.Mathlib.Omega.{arith}
use lib.ListN.{length}
use lib.Dec.{ltb}
use borrow.Author.Tests.{ltb-true}
use Rattle.std.specs.Prelude.{Err}
use Rattle.lemmas.proofs.Tests.{and_left, and_right, or_left_false}
use Rattle.nodes.specs.Words.{places}
use Rattle.waits.specs.declared.refusals.Refusal.{Refusal}
use Rattle.waits.specs.declared.rows.Row.{Row}
use Rattle.waits.specs.Rows.{row_at}
use Rattle.waits.specs.Numbers.{reason_number, Small, Line, line, strange_count, wrong_count, many_edges, row_lines, rows_lines, first_said, check_of}
use Rattle.waits.proofs.Cases.{count_fits}
use Rattle.waits.proofs.Table.{refused_not_accepted}
use Rattle.waits.specs.declared.refusals.Reason.{Reason}
use Rattle.waits.specs.declared.refusals.Reason.TheVariants.{WrongCount, StrangeKind, StrangeMember, WaitsOnItself, WrongThreshold, ExtraSet, BadSets, ManyEdges}

-- a number that a byte holds, of a row that one holds; of no row
few : (why : Reason) (row : ℕ) → (ltb 0 (reason_number why) && ltb (reason_number why) 256) ≡ true → row < 256
    → (1 ≤ reason_number why) × (reason_number why < 256) × (row < 256)
few why row e h =
    let number = reason_number why in
    (ltb-true 0 number (and_left (ltb 0 number) (ltb number 256) e), ltb-true number 256 (and_right (ltb 0 number) (ltb number 256) e), h)

pub alone : (why : Reason) → (ltb 0 (reason_number why) && ltb (reason_number why) 256) ≡ true → (1 ≤ reason_number why) × (reason_number why < 256) × (0 < 256)
alone why e = few why 0 e (omega arith)

-- a line whose refusal is small; all lines of a list
abbrev pub SmallLine : Line → Type 0
SmallLine l = Small l.gives

abbrev pub SmallLines : List Line → Type 0
SmallLines [] = Unit {0}
SmallLines (l ∷ ls) = SmallLine l × SmallLines ls

pub small_append : (ls ms : List Line) → SmallLines ls → SmallLines ms → SmallLines (ls ++ ms)
small_append [] ms p q = q
small_append (l ∷ ls) ms p q = (p.0, small_append ls ms p.1 q)

-- what the first line that says so gives; a line is reached only if those before it are silent
pub first_small : (l : Line) (ls : List Line) (r : Refusal) → SmallLine l → (l.says ≡ false → first_said ls ≡ Err r → Small r)
    → first_said (l ∷ ls) ≡ Err r → Small r
first_small l ls r p q = go l.says refl
  where
    go : (b : Bool) → l.says ≡ b → cond b (Err l.gives) (first_said ls) ≡ Err r → Small r
    go true e h = let same : l.gives ≡ r = cc h in subst Small same p
    go false e h = q e h

pub lines_small : (ls : List Line) (r : Refusal) → SmallLines ls → first_said ls ≡ Err r → Small r
lines_small [] r p h = absurd (refused_not_accepted (sym h))
lines_small (l ∷ ls) r p h = first_small l ls r p.0 (λ _. lines_small ls r p.1) h

-- ---- the rows of a graph
pub row_small : (n k : ℕ) (r : Row) → k < 256 → SmallLines (row_lines n k r)
row_small n k r h = (few StrangeKind k refl h, (few StrangeMember k refl h, (few WaitsOnItself k refl h, (few WrongThreshold k refl h, (few ExtraSet k refl h, (few BadSets k refl h, tt))))))

rows_small : (n : ℕ) (rows : List ℕ) (k m : ℕ) → k + m ≤ 256 → SmallLines (rows_lines n rows k m)
rows_small n rows k zero h = tt
rows_small n rows k (suc m) h =
    small_append (row_lines n k (row_at rows k)) (rows_lines n rows (suc k) m) (row_small n k (row_at rows k) (omega (arith, h))) (rows_small n rows (suc k) m (omega (arith, h)))

pub counted : (n numbers : ℕ) (ls : List Line) (r : Refusal) → (n ≤ places → SmallLines ls) → first_said (line WrongCount 0 (wrong_count n numbers) ∷ ls) ≡ Err r → Small r
unfolding wrong_count
counted n numbers ls r p =
    first_small (line WrongCount 0 (wrong_count n numbers)) ls r (alone WrongCount refl) (λ e. lines_small ls r (p (count_fits n (or_left_false (strange_count n) _ e))))

-- ---- a graph
module _ (n : ℕ) (rows : List ℕ) where
  pub graph_rest : n ≤ places → SmallLines (rows_lines n rows 0 n ++ line ManyEdges 0 (many_edges n rows) ∷ [])
  graph_rest h = small_append (rows_lines n rows 0 n) (line ManyEdges 0 (many_edges n rows) ∷ []) (rows_small n rows 0 n (omega (arith, h))) (alone ManyEdges refl, tt)

  pub check_small : (r : Refusal) → check_of n rows ≡ Err r → Small r
  unfolding check_of
  check_small r = counted n (length rows) (rows_lines n rows 0 n ++ line ManyEdges 0 (many_edges n rows) ∷ []) r graph_rest
