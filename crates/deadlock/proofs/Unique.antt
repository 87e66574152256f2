-- Any two results that a promise allows are equal, lent bytes included. Assumes nothing.
use mathlib.Core.Path.{◌≡◌, refl, sym, ap, ap₂, ◌∙◌}
use mathlib.Core.Logic.{◌↔◌}
use mathlib.Core.List.{List, ◌++◌}
use Prim.Native.Nat.{ℕ}
use lib.ListN.{length, drop}
use Rattle.std.specs.Prelude.{Bool, true, false, Result, Ok, Err}
use Rattle.lemmas.proofs.Ascending.{ascending_unique}
use Rattle.lemmas.proofs.Cases.{only_one}
use Rattle.nodes.specs.declared.Set.{Set}
use Rattle.nodes.specs.Sets.{In}
use Rattle.nodes.specs.Words.{num}
use Rattle.nodes.proofs.Inside.{same_nodes}
use Rattle.nodes.proofs.Words.{same_set}
use Rattle.waits.specs.declared.refusals.Refusal.{Refusal}
use Rattle.waits.specs.Waits.{Waits}
use Rattle.waits.proofs.Table.{refused_not_accepted}
use Rattle.deadlock.specs.declared.ring.Report.{Report}
use Rattle.deadlock.specs.declared.ring.Report.TheVariants.{InRing, BehindRing, NotDeadlocked}
use Rattle.deadlock.specs.Claims.{FoundSays, ClaimSays}
use Rattle.deadlock.specs.Evidence.{Evidence, WrittenSays}
use Rattle.deadlock.specs.Ring.{ReportSays}
use Rattle.deadlock.specs.Waiters.{InSays}

-- ---- a check gives one answer
one_refusal : {a : Result Unit Refusal} {r s : Refusal} → a ≡ Err r → a ≡ Err s → r ≡ s
one_refusal e f = let q : Err _ ≡ Err _ = sym e ∙ f in cc q

one_way : {a : Result Unit Refusal} {r : Refusal} → a ≡ Err r → a ≡ Ok tt → ⊥
one_way e f = refused_not_accepted (sym e ∙ f)

-- ---- a set is what its members are
one_set : (s t : Set) {P : ℕ → Type 0} → ((k : ℕ) → In k (num s) ↔ P k) → ((k : ℕ) → In k (num t) ↔ P k) → s ≡ t
one_set s t f g = same_set s t (same_nodes (num s) (num t) f g)

-- Law: of all claims.
pub one_found : (n : ℕ) (rows : List ℕ) (x y : Result Set Refusal) → FoundSays n rows x → FoundSays n rows y → x ≡ y
one_found n rows (Ok s) (Ok t) p q = ap Ok (one_set s t p.1 q.1)
one_found n rows (Ok s) (Err r) p q = absurd (one_way q p.0)
one_found n rows (Err r) (Ok t) p q = absurd (one_way p q.0)
one_found n rows (Err r) (Err s) p q = ap Err (one_refusal p q)

-- Law: of who waits on a node.
pub one_waiting : (n : ℕ) (rows : List ℕ) (i : ℕ) (x y : Result Set Refusal) → InSays n rows i x → InSays n rows i y → x ≡ y
one_waiting n rows i (Ok s) (Ok t) p q = ap Ok (same_set s t (only_one p.1 q.1))
one_waiting n rows i (Ok s) (Err r) p q = absurd (one_way q p.0)
one_waiting n rows i (Err r) (Ok t) p q = absurd (one_way p q.0)
one_waiting n rows i (Err r) (Err s) p q = ap Err (one_refusal p q)

-- Law: of one claim.
pub one_claim : (n : ℕ) (rows : List ℕ) (i : ℕ) (x y : Result Bool Refusal) → ClaimSays n rows i x → ClaimSays n rows i y → x ≡ y
one_claim n rows i (Ok true) (Ok true) p q = refl
one_claim n rows i (Ok true) (Ok false) p q = absurd (q.1 p.1)
one_claim n rows i (Ok true) (Err s) p q = absurd (one_way q p.0)
one_claim n rows i (Ok false) (Ok true) p q = absurd (p.1 q.1)
one_claim n rows i (Ok false) (Ok false) p q = refl
one_claim n rows i (Ok false) (Err s) p q = absurd (one_way q p.0)
one_claim n rows i (Err r) (Ok true) p q = absurd (one_way p q.0)
one_claim n rows i (Err r) (Ok false) p q = absurd (one_way p q.0)
one_claim n rows i (Err r) (Err s) p q = ap Err (one_refusal p q)

-- Law: of the ring.
pub one_report : (n : ℕ) (rows : List ℕ) (i : ℕ) (x y : Result Report Refusal) → ReportSays n rows i x → ReportSays n rows i y → x ≡ y
one_report n rows i (Ok InRing) (Ok InRing) p q = refl
one_report n rows i (Ok InRing) (Ok BehindRing) p q = absurd (q.2 p.2)
one_report n rows i (Ok InRing) (Ok NotDeadlocked) p q = absurd (q.1 p.1)
one_report n rows i (Ok InRing) (Err s) p q = absurd (one_way q p.0)
one_report n rows i (Ok BehindRing) (Ok InRing) p q = absurd (p.2 q.2)
one_report n rows i (Ok BehindRing) (Ok BehindRing) p q = refl
one_report n rows i (Ok BehindRing) (Ok NotDeadlocked) p q = absurd (q.1 p.1)
one_report n rows i (Ok BehindRing) (Err s) p q = absurd (one_way q p.0)
one_report n rows i (Ok NotDeadlocked) (Ok InRing) p q = absurd (p.1 q.1)
one_report n rows i (Ok NotDeadlocked) (Ok BehindRing) p q = absurd (p.1 q.1)
one_report n rows i (Ok NotDeadlocked) (Ok NotDeadlocked) p q = refl
one_report n rows i (Ok NotDeadlocked) (Err s) p q = absurd (one_way q p.0)
one_report n rows i (Err r) (Ok InRing) p q = absurd (one_way p q.0)
one_report n rows i (Err r) (Ok BehindRing) p q = absurd (one_way p q.0)
one_report n rows i (Err r) (Ok NotDeadlocked) p q = absurd (one_way p q.0)
one_report n rows i (Err r) (Err s) p q = ap Err (one_refusal p q)

-- Law: there is one list of evidence.
pub one_evidence : (w : Waits) (i : ℕ) (l m : List ℕ) → Evidence w i l → Evidence w i m → l ≡ m
one_evidence w i l m a b =
    ascending_unique l m a.ascends b.ascends (λ j. (λ x. (b.members j).1 ((a.members j).0 x), λ x. (a.members j).1 ((b.members j).0 x)))

-- Law: of the evidence written, and of the lent bytes.
pub one_written : (n : ℕ) (rows : List ℕ) (i : ℕ) (found left right : List ℕ) (x y : Result ℕ Refusal)
    → WrittenSays n rows i found left x → WrittenSays n rows i found right y → (x ≡ y) × (left ≡ right)
one_written n rows i found left right (Ok j) (Ok k) (p, (l, e, c, d)) (q, (m, f, g, h)) =
    let same = one_evidence _ i l m e f in
    let count : j ≡ k = c ∙ ap length same ∙ sym g in
    (ap Ok count, d ∙ ap₂ (λ (x : List ℕ) (y : ℕ). x ++ drop y found) same count ∙ sym h)
one_written n rows i found left right (Ok j) (Err s) p q = absurd (one_way q.0 p.0)
one_written n rows i found left right (Err r) (Ok k) p q = absurd (one_way p.0 q.0)
one_written n rows i found left right (Err r) (Err s) p q = (ap Err (one_refusal p.0 q.0), p.1 ∙ sym q.1)
