-- Any two results that a promise allows are equal, lent memory included. Assumes nothing.
use mathlib.Core.Path.{◌≡◌, sym, ap, ◌∙◌}
use mathlib.Core.List.{List}
use Prim.Native.Nat.{ℕ}
use Rattle.lemmas.proofs.Cases.{only_one}
use Rattle.std.specs.Prelude.{Result}
use Rattle.nodes.specs.declared.Set.{Set}
use Rattle.waits.specs.declared.refusals.Refusal.{Refusal}
use Rattle.deadlock.specs.Claims.{FoundSays, ClaimSays}
use Rattle.deadlock.specs.Evidence.{WrittenSays}
use Rattle.deadlock.specs.Ring.{ReportSays}
use Rattle.deadlock.specs.Waiters.{InSays}
use Rattle.deadlock.proofs.Unique.{one_found, one_waiting, one_claim, one_report, one_written}
use Rattle.step.specs.Step.{Outcome}
use Rattle.bench.specs.Bench.{Bench, After}
use Rattle.bench.specs.Runs.{Run}
use Rattle.coldroom.specs.Results.{found, claim, written, report}
use Rattle.coldroom.specs.Left.{Says, set_after, Leaves, StepLeaves, RunLeaves}

-- where one answer is allowed there is one result
one_says : {A : Type 0} (Allowed : A → Type 0) (number_of : A → ℕ) → ((x y : A) → Allowed x → Allowed y → x ≡ y)
    → (r s : ℕ) → Says Allowed number_of r → Says Allowed number_of s → r ≡ s
one_says Allowed number_of one r s (x, p, e) (y, q, f) = e ∙ ap number_of (one x y p q) ∙ sym f

-- and one set is left, where one is lent
one_lent : (Allowed : Result Set Refusal → Type 0) → ((x y : Result Set Refusal) → Allowed x → Allowed y → x ≡ y) → (set left right r s : ℕ)
    → Says (λ x. Allowed x × (left ≡ set_after set x)) found r → Says (λ x. Allowed x × (right ≡ set_after set x)) found s → (r ≡ s) × (left ≡ right)
one_lent Allowed one set left right r s (x, (p, a), e) (y, (q, b), f) =
    let same : x ≡ y = one x y p q in
    (e ∙ ap found same ∙ sym f, a ∙ ap (set_after set) same ∙ sym b)

-- ---- Laws: the calls on a graph. A promise that is an equation has `only_one`.
module _ (n : ℕ) (rows : List ℕ) where
  pub one_deadlocked : (i r s : ℕ) → Says (ClaimSays n rows i) claim r → Says (ClaimSays n rows i) claim s → r ≡ s
  one_deadlocked i = one_says (ClaimSays n rows i) claim (one_claim n rows i)

  pub one_ring : (i r s : ℕ) → Says (ReportSays n rows i) report r → Says (ReportSays n rows i) report s → r ≡ s
  one_ring i = one_says (ReportSays n rows i) report (one_report n rows i)

  pub one_all_deadlocked : (set left right r s : ℕ)
      → Says (λ x. FoundSays n rows x × (left ≡ set_after set x)) found r → Says (λ x. FoundSays n rows x × (right ≡ set_after set x)) found s
      → (r ≡ s) × (left ≡ right)
  one_all_deadlocked = one_lent (FoundSays n rows) (one_found n rows)

  pub one_in : (i set left right r s : ℕ)
      → Says (λ x. InSays n rows i x × (left ≡ set_after set x)) found r → Says (λ x. InSays n rows i x × (right ≡ set_after set x)) found s
      → (r ≡ s) × (left ≡ right)
  one_in i = one_lent (InSays n rows i) (one_waiting n rows i)

  pub one_write_evidence : (i : ℕ) (room left right : List ℕ) (r s : ℕ) → Says (WrittenSays n rows i room left) written r → Says (WrittenSays n rows i room right) written s
      → (r ≡ s) × (left ≡ right)
  one_write_evidence i room left right r s (x, p, e) (y, q, f) =
      let same = one_written n rows i room left right x y p q in
      (e ∙ ap written same.0 ∙ sym f, same.1)

-- ---- Law: the calls of a controller
pub one_call : (out : Outcome) (kept sends : List ℕ) (kept' kept'' sends' sends'' : List ℕ) (r s : ℕ)
    → Leaves out kept sends kept' sends' r → Leaves out kept sends kept'' sends'' s → (kept' ≡ kept'') × (sends' ≡ sends'') × (r ≡ s)
one_call out kept sends kept' kept'' sends' sends'' r s p q =
    (only_one p.kept_after q.kept_after, only_one p.sends_left q.sends_left, only_one p.result q.result)

-- ---- Laws: the calls of a bench
pub one_step : (out : After) (b c : Bench) (r s : ℕ) → StepLeaves out b r → StepLeaves out c s → (b ≡ c) × (r ≡ s)
one_step out b c r s p q = (only_one p.bench_after q.bench_after, only_one p.result q.result)

pub one_run : (out : Run) (b c : Bench) (answers answers' : List ℕ) (r s : ℕ) → RunLeaves out b answers r → RunLeaves out c answers' s
    → (b ≡ c) × (answers ≡ answers') × (r ≡ s)
one_run out b c answers answers' r s p q =
    (only_one p.bench_after q.bench_after, only_one p.answers_after q.answers_after, only_one p.result q.result)
