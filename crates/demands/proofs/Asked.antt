-- Questions about a graph: what is answered is a refusal exactly with the first line of the question's table that says so.
-- Assumes nothing.
use mathlib.Core.Path.{◌≡◌, sym, ap, ◌∙◌}
use mathlib.Core.Bool.{true, false}
use mathlib.Core.Logic.Iff
use mathlib.Core.Logic.{◌↔◌}
use mathlib.Core.List.{List, []}
use Prim.Native.Nat.{ℕ}
use lib.ListN.{length}
use Rattle.std.specs.Prelude.{Result, Ok, Err, Bool}
use Rattle.nodes.specs.declared.Set.{Set}
use Rattle.waits.specs.declared.refusals.Refusal.{Refusal}
use Rattle.waits.specs.Numbers.{graph_lines, check_of, Gives}
use Rattle.waits.proofs.Table.{refused_not_accepted, refused_iff, check_refused}
use Rattle.deadlock.specs.declared.ring.Report.{Report}
use Rattle.deadlock.specs.declared.ring.Report.TheVariants.{InRing, BehindRing, NotDeadlocked}
use Rattle.deadlock.specs.Refusals.{asked_lines, list_lines, room_lines, check_node_of, check_list_of, check_room_of}
use Rattle.deadlock.specs.Claims.{FoundSays, ClaimSays}
use Rattle.deadlock.specs.Ring.{ReportSays}
use Rattle.deadlock.specs.Waiters.{InSays}
use Rattle.deadlock.specs.Evidence.{WrittenSays, judged_of}
use Rattle.deadlock.proofs.Judging.{judged_refusal}

-- ---- an answer and the check behind it: a refusal, which tells its number, or something that is no refusal
module _ {A : Type 0} {c : Result Unit Refusal} {r : Refusal} where
  pub by_refusal : {t : Refusal} → c ≡ Err t → ◌≡◌ {A = Result A Refusal} (Err t) (Err r) ↔ (c ≡ Err r)
  by_refusal e = (λ f. e ∙ ap Err (cc f), λ f. let q : Err _ ≡ Err r = sym e ∙ f in ap Err (cc q))

  pub no_refusal : {x : Result A Refusal} → (x ≡ Err r → ⊥) → c ≡ Ok tt → (x ≡ Err r) ↔ (c ≡ Err r)
  no_refusal plain e = (λ f. absurd (plain f), λ f. absurd (refused_not_accepted (sym f ∙ e)))

-- ---- all claims of a graph
module _ (n : ℕ) (rows : List ℕ) (r : Refusal) where
  found_check : (x : Result Set Refusal) → FoundSays n rows x → (x ≡ Err r) ↔ (check_of n rows ≡ Err r)
  found_check (Ok s) p = no_refusal (λ e. cc e) p.0
  found_check (Err t) p = by_refusal p

  pub found_gives : (x : Result Set Refusal) → FoundSays n rows x → (x ≡ Err r) ↔ Gives (graph_lines n rows) r
  found_gives x p = Iff.trans (found_check x p) (check_refused n rows r)

-- ---- one node
module _ (n : ℕ) (rows : List ℕ) (r : Refusal) (i : ℕ) where
  node_gives : (check_node_of n rows i ≡ Err r) ↔ Gives (asked_lines n rows i []) r
  unfolding check_node_of
  node_gives = refused_iff (asked_lines n rows i []) r

  claim_check : (x : Result Bool Refusal) → ClaimSays n rows i x → (x ≡ Err r) ↔ (check_node_of n rows i ≡ Err r)
  claim_check (Ok true) p = no_refusal (λ e. cc e) p.0
  claim_check (Ok false) p = no_refusal (λ e. cc e) p.0
  claim_check (Err t) p = by_refusal p

  pub claim_gives : (x : Result Bool Refusal) → ClaimSays n rows i x → (x ≡ Err r) ↔ Gives (asked_lines n rows i []) r
  claim_gives x p = Iff.trans (claim_check x p) node_gives

  ring_check : (x : Result Report Refusal) → ReportSays n rows i x → (x ≡ Err r) ↔ (check_node_of n rows i ≡ Err r)
  ring_check (Ok InRing) p = no_refusal (λ e. cc e) p.0
  ring_check (Ok BehindRing) p = no_refusal (λ e. cc e) p.0
  ring_check (Ok NotDeadlocked) p = no_refusal (λ e. cc e) p.0
  ring_check (Err t) p = by_refusal p

  pub ring_gives : (x : Result Report Refusal) → ReportSays n rows i x → (x ≡ Err r) ↔ Gives (asked_lines n rows i []) r
  ring_gives x p = Iff.trans (ring_check x p) node_gives

  in_check : (x : Result Set Refusal) → InSays n rows i x → (x ≡ Err r) ↔ (check_node_of n rows i ≡ Err r)
  in_check (Ok s) p = no_refusal (λ e. cc e) p.0
  in_check (Err t) p = by_refusal p

  pub in_gives : (x : Result Set Refusal) → InSays n rows i x → (x ≡ Err r) ↔ Gives (asked_lines n rows i []) r
  in_gives x p = Iff.trans (in_check x p) node_gives

  -- ---- with a list
  pub list_gives : (l : List ℕ) → (judged_of n rows i l ≡ Err r) ↔ Gives (list_lines n rows i l) r
  unfolding check_list_of
  list_gives l = Iff.trans (judged_refusal n rows i l r) (refused_iff (list_lines n rows i l) r)

  -- ---- with lent bytes
  room_gives : (bytes : ℕ) → (check_room_of n rows i bytes ≡ Err r) ↔ Gives (room_lines n rows i bytes) r
  unfolding check_room_of
  room_gives bytes = refused_iff (room_lines n rows i bytes) r

  module _ (found left : List ℕ) where
    written_check : (x : Result ℕ Refusal) → WrittenSays n rows i found left x → (x ≡ Err r) ↔ (check_room_of n rows i (length found) ≡ Err r)
    written_check (Ok k) p = no_refusal (λ e. cc e) p.0
    written_check (Err t) p = by_refusal p.0

    pub written_gives : (x : Result ℕ Refusal) → WrittenSays n rows i found left x → (x ≡ Err r) ↔ Gives (room_lines n rows i (length found)) r
    written_gives x p = Iff.trans (written_check x p) (room_gives (length found))
