-- What is said of a field agrees with how it is read: it has no flaw exactly if it can be read. Assumes nothing.
use mathlib.Core.Path.{◌≡◌, refl, sym, ap, ap₂, ◌∙◌}
use mathlib.Core.Bool.{Bool, true, false, cond, not, ◌||◌}
use mathlib.Core.Logic.{◌↔◌}
use mathlib.Core.List.{List, [], ◌∷◌}
use mathlib.Core.Option.{none, some}
use Prim.Native.Nat.{ℕ, ◌+◌, ◌^◌, ◌≤◌}
use native.Mathlib.Omega.{arith}
use lib.Dec.{leb, ltb, eqb}
use lib.ListN.{length}
use borrow.Author.Tests.{ne_eqb, lt-leb, lt-ltb, le-ltb, leb-false, ltb-true, ltb-false, not-false}
use Rattle.std.specs.Prelude.{Result, Ok, Err}
use Rattle.lemmas.specs.Lists.{any_of, ascending}
use Rattle.lemmas.proofs.Cases.{at_false}
use Rattle.lemmas.proofs.Tests.{and_intro, and_left, and_right, or_left_false, or_right_false}
use Rattle.nodes.specs.Words.{places}
use Rattle.nodes.specs.Sets.{set_of}
use Rattle.format.specs.Cut.{space, pieces}
use Rattle.format.specs.Fields.{no_digit, value_from, no_number, number_of, in_front, numbers_of, members_of, no_set, set_of_these, set_in}
use Rattle.format.proofs.Choices.{some_unless}
use Rattle.format.proofs.SetTexts.{in_front_lem, these}
use Rattle.faults.specs.declared.flaws.Flaw.{Flaw}
use Rattle.faults.specs.declared.flaws.Flaw.TheVariants.{Empty, NoDigit, PastBits}
use Rattle.faults.specs.Flaws.{number_flaw, member_in, member_then, members_flaw, set_flaw}
use Rattle.faults.proofs.Judging.{member_back}

wrong : {A : Type 0} {f : Flaw} → ◌≡◌ {A = Result Unit Flaw} (Err f) (Ok tt) → A
wrong e = absurd cc

-- ---- a number
number_sure : (w : List ℕ) (v : ℕ) → eqb (length w) 0 ≡ false → any_of no_digit w ≡ false → leb (2 ^ 64) (value_from 0 w) ≡ false → value_from 0 w ≡ v
    → number_of w ≡ some v
unfolding number_of no_number
number_sure w v a b c e =
    sym (at_false none (ap₂ (λ (x : Bool) (y : Bool). x || y) a (ap₂ (λ (x : Bool) (y : Bool). x || y) b c)) (ap some (sym e)))

number_parts : (w : List ℕ) (v : ℕ) → number_of w ≡ some v
    → (eqb (length w) 0 ≡ false) × (any_of no_digit w ≡ false) × (leb (2 ^ 64) (value_from 0 w) ≡ false) × (value_from 0 w ≡ v)
unfolding number_of no_number
number_parts w v e =
    let q = some_unless (no_number w) (value_from 0 w) v e in
    let r = or_right_false (eqb (length w) 0) _ q.0 in (
      or_left_false (eqb (length w) 0) _ q.0,
      or_left_false (any_of no_digit w) _ r,
      or_right_false (any_of no_digit w) _ r,
      q.1,
    )

-- Law: a field has no flaw as a number exactly if it is read as one.
pub number_agrees : (w : List ℕ) → (number_flaw w ≡ Ok tt) ↔ ((v : ℕ) × (number_of w ≡ some v))
unfolding number_flaw
number_agrees w = (
  go (eqb (length w) 0) refl (any_of no_digit w) refl (leb (2 ^ 64) (value_from 0 w)) refl,
  λ r. let p = number_parts w r.0 r.1 in sym (at_false _ p.0 (at_false _ p.1 (at_false _ p.2 refl))),
)
  where
    go : (a : Bool) → eqb (length w) 0 ≡ a → (b : Bool) → any_of no_digit w ≡ b → (c : Bool) → leb (2 ^ 64) (value_from 0 w) ≡ c
        → cond a (Err Empty) (cond b (Err NoDigit) (cond c (Err PastBits) (Ok (tt {0})))) ≡ Ok tt → (v : ℕ) × (number_of w ≡ some v)
    go true _ b _ c _ e = wrong e
    go false _ true _ c _ e = wrong e
    go false _ false _ true _ e = wrong e
    go false x false y false z e = (value_from 0 w, number_sure w (value_from 0 w) x y z refl)

-- ---- members

-- the first of these is no lower
abbrev NoLower : ℕ → List ℕ → Type 0
NoLower lowest [] = Unit {0}
NoLower lowest (m ∷ ms) = lowest ≤ m

record Members (lowest : ℕ) (ws : List (List ℕ)) : Type 0 where
  pub these_are : List ℕ
  pub read : numbers_of ws ≡ some these_are
  pub from : NoLower lowest these_are
  pub ascends : ascending these_are ≡ true
  pub placed : any_of (leb places) these_are ≡ false

ascends_on : (m : ℕ) (ms : List ℕ) → NoLower (m + 1) ms → ascending ms ≡ true → ascending (m ∷ ms) ≡ true
ascends_on m [] l a = refl
ascends_on m (n ∷ ms) l a = and_intro (ltb m n) (ascending (n ∷ ms)) (lt-ltb m n (omega arith)) a

ascends_from : (m : ℕ) (ms : List ℕ) → ascending (m ∷ ms) ≡ true → NoLower (m + 1) ms × (ascending ms ≡ true)
ascends_from m [] a = (tt, refl)
ascends_from m (n ∷ ms) a = (omega (arith, ltb-true m n (and_left (ltb m n) (ascending (n ∷ ms)) a)), and_right (ltb m n) (ascending (n ∷ ms)) a)

members_read : (lowest : ℕ) (ws : List (List ℕ)) → members_flaw lowest ws ≡ Ok tt → Members lowest ws
unfolding members_flaw numbers_of
members_read lowest [] e = record { these_are = []; read = refl; from = tt; ascends = refl; placed = refl }
members_read lowest (w ∷ ws) e = go (member_in lowest w) refl e (members_read (value_from 0 w + 1) ws)
  where
    go : (m : Result ℕ Flaw) → member_in lowest w ≡ m → member_then m (members_flaw (value_from 0 w + 1) ws) ≡ Ok tt
        → (members_flaw (value_from 0 w + 1) ws ≡ Ok tt → Members (value_from 0 w + 1) ws) → Members lowest (w ∷ ws)
    go (Err f) i e ih = wrong e
    go (Ok m) i e ih =
        let b = member_back lowest w m i in
        let r = ih e in
        let v = value_from 0 w in
        let placed = leb-false places v b.placed in
        record {
          these_are = v ∷ r.these_are;
          read = ap₂ in_front (number_sure w v b.some_byte b.digits (lt-leb (2 ^ 64) v (omega arith)) refl) r.read;
          from = ltb-false v lowest b.above;
          ascends = ascends_on v r.these_are r.from r.ascends;
          placed = ap₂ (λ (x : Bool) (y : Bool). x || y) b.placed r.placed;
        }

member_sure : (lowest : ℕ) (w : List ℕ) (m : ℕ) → number_of w ≡ some m → lowest ≤ m → leb places m ≡ false → member_in lowest w ≡ Ok (value_from 0 w)
unfolding member_in
member_sure lowest w m e l h =
    let p = number_parts w m e in
    let v = value_from 0 w in
    sym
    (at_false _ p.0
    (at_false _ p.1
    (at_false _ (ap (leb places) p.3 ∙ h)
    (at_false _ (ne_eqb (v + 1) lowest (λ q. omega (arith, p.3)))
    (at_false _ (le-ltb v lowest (omega (arith, p.3))) refl)))))

members_fine : (lowest : ℕ) (ws : List (List ℕ)) (ms : List ℕ) → numbers_of ws ≡ some ms → NoLower lowest ms → ascending ms ≡ true → any_of (leb places) ms ≡ false
    → members_flaw lowest ws ≡ Ok tt
unfolding members_flaw numbers_of
members_fine lowest [] ms e l a h = refl
members_fine lowest (w ∷ ws) ms e l a h =
    let q = in_front_lem (number_of w) (numbers_of ws) ms e in
    go q.0 q.1 q.2 (rw q.4 at l) (rw q.4 at a) (rw q.4 at h)
    (λ up placed. let b = ascends_from q.0 q.1 up in members_fine (q.0 + 1) ws q.1 q.3 b.0 b.1 placed)
  where
    go : (m : ℕ) (r : List ℕ) → number_of w ≡ some m → lowest ≤ m → ascending (m ∷ r) ≡ true → any_of (leb places) (m ∷ r) ≡ false
        → (ascending (m ∷ r) ≡ true → any_of (leb places) r ≡ false → members_flaw (m + 1) ws ≡ Ok tt)
        → member_then (member_in lowest w) (members_flaw (value_from 0 w + 1) ws) ≡ Ok tt
    go m r n l a h ih =
        ap (λ (x : Result ℕ Flaw). member_then x (members_flaw (value_from 0 w + 1) ws)) (member_sure lowest w m n l (or_left_false (leb places m) (any_of (leb places) r) h))
        ∙ ap (λ (x : ℕ). members_flaw (x + 1) ws) (number_parts w m n).3
        ∙ ih a (or_right_false (leb places m) (any_of (leb places) r) h)

-- ---- a set
all_set : (ms : List ℕ) → ascending ms ≡ true → any_of (leb places) ms ≡ false → set_of_these (some ms) ≡ some (set_of ms)
unfolding no_set
all_set ms a h = sym (at_false none (ap₂ (λ (x : Bool) (y : Bool). not x || y) a h) refl)

-- Law: a field has no flaw as a set exactly if it is read as one.
pub set_agrees : (w : List ℕ) → (set_flaw w ≡ Ok tt) ↔ ((s : ℕ) × (set_in w ≡ some s))
unfolding set_flaw set_in members_of no_set
set_agrees [] = (λ e. (set_of [], refl), λ r. refl)
set_agrees (b ∷ l) = (
  λ e. let m = members_read 0 (pieces space (b ∷ l)) e in (set_of m.these_are, ap set_of_these m.read ∙ all_set m.these_are m.ascends m.placed),
  λ r.
      let q = these (members_of (b ∷ l)) r.0 r.1 in
      let up = not-false (ascending q.0) (or_left_false (not (ascending q.0)) (any_of (leb places) q.0) q.2) in
      members_fine 0 (pieces space (b ∷ l)) q.0 q.1 (lowest_0 q.0) up (or_right_false (not (ascending q.0)) (any_of (leb places) q.0) q.2),
)
  where
    lowest_0 : (ms : List ℕ) → NoLower 0 ms
    lowest_0 [] = tt
    lowest_0 (m ∷ ms) = omega arith
