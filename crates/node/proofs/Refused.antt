-- The table's order for one controller, and what isn't refused. Assumes nothing.
use mathlib.Core.Path.{◌≡◌, refl}
use mathlib.Core.Logic.{◌↔◌}
use mathlib.Core.Bool.{false}
use mathlib.Core.List.{List}
use mathlib.Core.List.Memᴰ.{head as here}
use mathlib.Core.List.Memᴰ.{tail as there}
use Prim.Native.Nat.{ℕ, ◌<◌, ◌≤◌}
use native.Mathlib.Omega.{arith}
use lib.Dec.{leb}
use lib.ListN.{length}
use borrow.Author.Tests.{leb-false, eqb-true, not-false}
use Rattle.lemmas.proofs.Tests.{or_left_false, or_right_false}
use Rattle.nodes.specs.Sets.{no_node}
use Rattle.nodes.specs.Words.{places}
use Rattle.records.specs.declared.messages.Message.{Message}
use Rattle.records.specs.Rounds.{cannot_open}
use Rattle.records.specs.Messages.{kinds, strange_message}
use Rattle.records.specs.Records.{State, Fitting, strange_record}
use Rattle.records.proofs.Fits.{record_fits}
use Rattle.waits.specs.declared.refusals.Refusal.{Refusal}
use Rattle.std.specs.Prelude.{Ok, Err}
use Rattle.waits.specs.Rows.{row_size, row_at}
use Rattle.waits.specs.Numbers.{line, strange_count, Gives}
use Rattle.waits.proofs.Cases.{count_fits}
use Rattle.waits.proofs.Table.{accepted_silent, refused_iff, Fine, fine}
use Rattle.waits.proofs.Next.{Next, next, refused_before, next_accepted}
use Rattle.node.specs.Refusals.{wrong_own, strange_kept, own_lines, kept_lines, open_lines, deliver_lines, check_own_of, check_kept_of, check_open_of, check_deliver_of}
use Rattle.waits.specs.declared.refusals.Reason.TheVariants.{WrongCount, CannotOpen, StrangeState}

-- what a right count says
pub right_own : (n numbers : ℕ) → wrong_own n numbers ≡ false → (n ≤ places) × (numbers ≡ row_size)
unfolding wrong_own
right_own n numbers e = (count_fits n (or_left_false (strange_count n) _ e), eqb-true numbers row_size (not-false _ (or_right_false (strange_count n) _ e)))

module _ (n me : ℕ) (row : List ℕ) where
  pub own_accepted : check_own_of n me row ≡ Ok tt → (n ≤ places) × (length row ≡ row_size)
  unfolding check_own_of
  own_accepted e = right_own n (length row) (accepted_silent (own_lines n me row) e (line WrongCount 0 (wrong_own n (length row))) (here refl))

  module _ (ins : ℕ) (s : State) where
    pub kept_next : Next (check_own_of n me row) (line StrangeState 0 (strange_kept n s ins)) (check_kept_of n me row ins s)
    unfolding check_own_of check_kept_of
    kept_next = next (own_lines n me row) (line StrangeState 0 (strange_kept n s ins))

    pub open_next : (round : ℕ) → Next (check_kept_of n me row ins s) (line CannotOpen 0 (cannot_open s.round round)) (check_open_of n me row ins s round)
    unfolding check_kept_of check_open_of
    open_next round = next (kept_lines n me row ins s) (line CannotOpen 0 (cannot_open s.round round))

    pub deliver_next : (m : Message) → Next (check_kept_of n me row ins s) (line StrangeState 0 (strange_message n m)) (check_deliver_of n me row ins s m)
    unfolding check_kept_of check_deliver_of
    deliver_next m = next (kept_lines n me row ins s) (line StrangeState 0 (strange_message n m))

    pub kept_refused : {r : Refusal} → check_own_of n me row ≡ Err r → Err r ≡ check_kept_of n me row ins s
    kept_refused = refused_before (line StrangeState 0 (strange_kept n s ins)) kept_next

    pub open_refused : (round : ℕ) {r : Refusal} → check_kept_of n me row ins s ≡ Err r → Err r ≡ check_open_of n me row ins s round
    open_refused round = refused_before (line CannotOpen 0 (cannot_open s.round round)) (open_next round)

    pub deliver_refused : (m : Message) {r : Refusal} → check_kept_of n me row ins s ≡ Err r → Err r ≡ check_deliver_of n me row ins s m
    deliver_refused m = refused_before (line StrangeState 0 (strange_message n m)) (deliver_next m)

    -- Theorems: each number is given exactly when its line says so and no earlier one does.
    pub opening_refused : (round : ℕ) (r : Refusal) → (check_open_of n me row ins s round ≡ Err r) ↔ Gives (open_lines n me row ins s round) r
    unfolding check_open_of
    opening_refused round r = refused_iff (open_lines n me row ins s round) r

    pub delivery_refused : (m : Message) (r : Refusal) → (check_deliver_of n me row ins s m ≡ Err r) ↔ Gives (deliver_lines n me row ins s m) r
    unfolding check_deliver_of
    delivery_refused m r = refused_iff (deliver_lines n me row ins s m) r

    -- what isn't refused: few enough nodes, six row numbers, and a record that names nodes
    kept_accepted : check_kept_of n me row ins s ≡ Ok tt → (n ≤ places) × (length row ≡ row_size) × Fitting s
    unfolding strange_kept
    kept_accepted e =
        let p = next_accepted (line StrangeState 0 (strange_kept n s ins)) kept_next e in
        let q = own_accepted p.0 in
        (q.0, q.1, record_fits n s q.0 (or_left_false (strange_record n s) _ p.1))

    pub open_own : (round : ℕ) → check_open_of n me row ins s round ≡ Ok tt → Fine n me (row_at row 0)
    unfolding check_own_of
    open_own round e =
        let p = next_accepted (line CannotOpen 0 (cannot_open s.round round)) (open_next round) e in
        let q = next_accepted (line StrangeState 0 (strange_kept n s ins)) kept_next p.0 in
        fine n me (row_at row 0) (λ l i. accepted_silent (own_lines n me row) q.0 l (there (there i)))

    pub open_accepted : (round : ℕ) → check_open_of n me row ins s round ≡ Ok tt → length row ≡ row_size
    open_accepted round e = (kept_accepted (next_accepted (line CannotOpen 0 (cannot_open s.round round)) (open_next round) e).0).1

    pub deliver_accepted : (m : Message) → check_deliver_of n me row ins s m ≡ Ok tt → (length row ≡ row_size) × (m.from.0 < places) × Fitting s
    unfolding strange_message no_node
    deliver_accepted m e =
        let p = next_accepted (line StrangeState 0 (strange_message n m)) (deliver_next m) e in
        let q = kept_accepted p.0 in
        let f = leb-false n m.from.0 (or_left_false _ _ (or_right_false (leb kinds m.kind) _ p.1)) in
        (q.1, omega (arith, f, q.0), q.2)
