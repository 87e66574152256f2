-- Rows that are accepted give a lawful graph of waits, in which each condition can be met. Assumes nothing.
use mathlib.Core.Path.{◌≡◌, refl, ◌∙◌}
use mathlib.Core.Bool.{true, false, ◌&&◌}
use mathlib.Core.Logic.{◌⊎◌, inl, inr, ⊎_elim}
use mathlib.Core.List.{List}
use Prim.Native.Nat.{ℕ, zero, suc, ◌≤◌, ◌<◌}
use native.Mathlib.Nat.{le_trans}
use native.Mathlib.Omega.{arith}
use lib.Dec.{leb, eqb}
use borrow.Author.Tests.{leb-true, le-leb, lt-leb, ltb-false, eqb-true, eqb-false, eq-eqb, not-false}
use Rattle.std.specs.Prelude.{Ok}
use Rattle.lemmas.proofs.Cases.{of_true, and_rest}
use Rattle.lemmas.proofs.Tests.{and_left, and_right, or_left_false, not_both, not_true_false}
use Rattle.lemmas.proofs.Any.{any_some, some_any}
use Rattle.nodes.specs.Sets.{In, Inside, meet, size}
use Rattle.nodes.specs.Words.{num}
use Rattle.nodes.proofs.Operations.{in_below, in_meet}
use Rattle.nodes.proofs.Inside.{inside_of, inside_in, inside_member}
use Rattle.nodes.proofs.Members.{none_or_some}
use Rattle.nodes.proofs.Size.{size_mono, size_empty}
use Rattle.waits.specs.declared.rows.Row.{Row}
use Rattle.waits.specs.Waits.{Lawful}
use Rattle.waits.specs.Rows.{row_at, sets_of, out_of, lies_in, holds_of, waits_of}
use Rattle.waits.specs.Numbers.{strange_kind, strange_member, wrong_threshold, extra_set, nested, bad_sets, check_of}
use Rattle.waits.proofs.Table.{Fine, accepted_row}
use Rattle.waits.proofs.Condition.{holds_0, holds_1, holds_2, holds_more, holds_local, out_first, out_in_set, lies_in_empty, lies_in_out}

-- ---- what a row says that gets no number
module _ (n k : ℕ) (r : Row) (ok : Fine n k r) where
  kinds : (r.kind ≡ 0) ⊎ ((r.kind ≡ 1) ⊎ (r.kind ≡ 2))
  unfolding strange_kind
  kinds = go r.kind (ltb-false 2 r.kind ok.kind)
    where
      go : (x : ℕ) → x ≤ 2 → (x ≡ 0) ⊎ ((x ≡ 1) ⊎ (x ≡ 2))
      go zero h = inl refl
      go (suc zero) h = inr (inl refl)
      go (suc (suc zero)) h = inr (inr refl)
      go (suc (suc (suc x))) h = absurd (omega arith)

  out_below : (j : ℕ) → In j (out_of r) → j < n
  unfolding strange_member
  out_below j i = (in_below n j).0 (inside_member _ _ j (inside_of _ _ (not-false _ ok.member)) i)

  threshold_range : r.kind ≡ 1 → (1 ≤ r.threshold) × (r.threshold ≤ size (num r.first))
  unfolding wrong_threshold
  threshold_range e =
      let t : (leb 1 r.threshold && leb r.threshold (size (num r.first))) ≡ true = not-false _ (of_true _ (eq-eqb r.kind 1 e) ok.threshold) in
      (leb-true _ _ (and_left (leb 1 r.threshold) _ t), leb-true _ _ (and_right (leb 1 r.threshold) _ t))

  no_set_lem : r.kind ≡ 0 → out_of r ≡ 0
  unfolding extra_set
  no_set_lem e = eqb-true _ _ (not-false _ (of_true _ (eq-eqb r.kind 0 e) ok.extra))

  some_set : r.kind ≡ 2 → out_of r ≡ 0 → ⊥
  unfolding bad_sets
  some_set e z = eqb-false _ _ (or_left_false (eqb (out_of r) 0) (nested (sets_of r)) (and_rest _ (eq-eqb r.kind 2 e) ok.sets)) z

  -- ---- with nobody granting
  count_unmet : r.kind ≡ 1 → holds_of r 0 ≡ false
  count_unmet e =
      let few : size (meet (num r.first) 0) ≤ size 0 = size_mono _ _ (inside_in _ _ (λ j i. ((in_meet (num r.first) 0 j).0 i).1)) in
      holds_1 r 0 e ∙ lt-leb r.threshold (size (meet (num r.first) 0)) (omega (arith, threshold_range e, size_empty))

  sets_unmet : r.kind ≡ 2 → holds_of r 0 ≡ false
  sets_unmet e = holds_2 r 0 e ∙ not_true_false _ (λ t. let s = any_some (λ q. lies_in q 0) (sets_of r) t in not_both s.2 (lies_in_empty s.0))

  pub active : holds_of r 0 ≡ true → out_of r ≡ 0
  active t =
      ⊎_elim no_set_lem
      (λ s. ⊎_elim (λ (e : r.kind ≡ 1). absurd (not_both t (count_unmet e))) (λ (e : r.kind ≡ 2). absurd (not_both t (sets_unmet e))) s)
      kinds

  first_nonempty : r.kind ≡ 1 → out_of r ≡ 0 → ⊥
  first_nonempty e z =
      let first-in : Inside (num r.first) 0 = inside_in _ _ (λ j i. rw z at (out_first r j i)) in
      omega (arith, threshold_range e, size_mono (num r.first) 0 first-in, size_empty)

  pub waiting : holds_of r 0 ≡ false → out_of r ≡ 0 → ⊥
  waiting f = ⊎_elim (λ (e : r.kind ≡ 0). λ z. not_both (holds_0 r 0 e) f) (λ s. ⊎_elim first_nonempty some_set s) kinds

  -- ---- with all of OUT granting
  count_met : r.kind ≡ 1 → holds_of r (out_of r) ≡ true
  count_met e =
      let all : size (num r.first) ≤ size (meet (num r.first) (out_of r)) = size_mono _ _ (inside_in _ _ (λ j i. (in_meet (num r.first) (out_of r) j).1 (i, out_first r j i))) in
      holds_1 r (out_of r) e ∙ le-leb r.threshold _ (le_trans (threshold_range e).1 all)

  sets_met : r.kind ≡ 2 → holds_of r (out_of r) ≡ true
  sets_met e =
      let some : (k : ℕ) × In k (out_of r) = ⊎_elim (λ z. absurd (some_set e z)) (λ p. p) (none_or_some (out_of r)) in
      let s = out_in_set r some.0 some.1 in
      holds_2 r (out_of r) e ∙ some_any (λ q. lies_in q (out_of r)) (sets_of r) s.0 s.1 (lies_in_out r s.0 some.0 s.1 s.2)

  pub met_by_all : holds_of r (out_of r) ≡ true
  met_by_all = ⊎_elim (λ (e : r.kind ≡ 0). holds_0 r (out_of r) e) (λ s. ⊎_elim count_met sets_met s) kinds

-- Theorem: rows that are accepted give a lawful graph of waits.
pub accepted_lawful : (n : ℕ) (rows : List ℕ) → check_of n rows ≡ Ok tt → Lawful (waits_of n rows)
accepted_lawful n rows ok = record {
  closed = λ i j h o. out_below n i (row_at rows i) (accepted_row n rows ok i h) j o;
  monotone = λ i g g' h s e. holds_more (row_at rows i) g g' (λ j o m. inside_member g g' j s m) e;
  local = λ i g g' h f. holds_local (row_at rows i) g g' f;
  active = λ i h e. active n i (row_at rows i) (accepted_row n rows ok i h) e;
  waiting = λ i h e. waiting n i (row_at rows i) (accepted_row n rows ok i h) e;
}

-- Theorem: and in it each condition holds when all that the node waits on have granted.
pub accepted_met : (n : ℕ) (rows : List ℕ) → check_of n rows ≡ Ok tt → (i : ℕ) → i < n → (waits_of n rows).holds i ((waits_of n rows).out i) ≡ true
accepted_met n rows ok i h = met_by_all n i (row_at rows i) (accepted_row n rows ok i h)
