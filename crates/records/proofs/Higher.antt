-- What the layers above use of rounds: which exist, and how two of them stand. Assumes nothing.
use mathlib.Core.Path.{◌≡◌, refl, sym, ap, ap₂, ◌∙◌}
use mathlib.Core.Bool.{Bool, true, false, cond, not, ◌||◌}
use mathlib.Core.Logic.{◌↔◌}
use Prim.Native.Nat.{ℕ, ◌≤◌, ◌<◌}
use native.Mathlib.Omega.{arith}
use lib.Dec.{eqb, ltb}
use Rattle.std.proofs.lemmas.Bool.Decides.{nat_tests}
use borrow.Author.Tests.{not-false, lt-ltb, ltb-true, ltb-false, le-ltb, eqb-false, ne_eqb}
use Rattle.lemmas.proofs.Tests.{or_left_false, or_right_false}
use Rattle.records.specs.Rounds.{last_round, compare_of, behind, ahead, no_round, cannot_open}
use Rattle.records.specs.Records.{State, blank_of, in_round}

-- a round is ahead exactly if it is the higher one
higher : (round own : ℕ) → ahead round own ≡ ltb own round
unfolding ahead compare_of
higher round own = grind (arith, nat_tests)

-- and behind exactly if it is the lower one
lower : (round own : ℕ) → behind round own ≡ ltb round own
unfolding behind compare_of
lower round own = grind (arith, nat_tests)

-- Theorem: rounds are compared as numbers.
pub behind_iff : (round own : ℕ) → (behind round own ≡ true) ↔ (round < own)
behind_iff round own = (λ e. ltb-true round own (sym (lower round own) ∙ e), λ h. lower round own ∙ lt-ltb round own h)

pub ahead_iff : (round own : ℕ) → (ahead round own ≡ true) ↔ (own < round)
ahead_iff round own = (λ e. ltb-true own round (sym (higher round own) ∙ e), λ h. higher round own ∙ lt-ltb own round h)

pub not_behind : (round own : ℕ) → behind round own ≡ false → own ≤ round
not_behind round own e = ltb-false round own (sym (lower round own) ∙ e)

pub not_ahead_itself : (round : ℕ) → ahead round round ≡ false
not_ahead_itself round = higher round round ∙ le-ltb round round (omega arith)

pub not_behind_itself : (round : ℕ) → behind round round ≡ false
not_behind_itself round = lower round round ∙ le-ltb round round (omega arith)

-- a round that isn't above the highest so far isn't above a higher one
pub not_ahead_later : (round own later : ℕ) → ahead round own ≡ false → ahead later own ≡ true → ahead round later ≡ false
not_ahead_later round own later e f =
    let p : round ≤ own = ltb-false own round (rw (higher round own) at e) in
    let q : own < later = ltb-true own later (rw (higher later own) at f) in
    higher round later ∙ le-ltb later round (omega arith)

-- ---- rounds that exist
pub round_range : (round : ℕ) → no_round round ≡ false → (1 ≤ round) × (round ≤ last_round)
unfolding no_round
round_range round e =
    let ne = eqb-false round 0 (or_left_false (eqb round 0) _ e) in
    (omega (arith, ne), ltb-false last_round round (or_right_false (eqb round 0) _ e))

pub range_round : (round : ℕ) → 1 ≤ round → round ≤ last_round → no_round round ≡ false
unfolding no_round
range_round round h l = ap₂ ◌||◌ (ne_eqb round 0 (λ q. omega arith)) (le-ltb last_round round l)

-- Theorem: a round can be opened exactly if it is above the highest so far and not past the last.
pub opens_iff : (own round : ℕ) → (cannot_open own round ≡ false) ↔ ((own < round) × (round ≤ last_round))
unfolding cannot_open
opens_iff own round = (
  λ e. (
    (ahead_iff round own).0 (not-false (ahead round own) (or_right_false (no_round round) _ e)),
    (round_range round (or_left_false (no_round round) _ e)).1,
  ),
  λ h. ap₂ ◌||◌ (range_round round (omega (arith, h.0)) h.1) (ap not ((ahead_iff round own).1 h.0)),
)

-- ---- the round of a record as it stands in a message's round
module _ (m : ℕ) (r : State) where
  in_round_as : (b : Bool) → ahead m r.round ≡ b → (in_round m r).round ≡ cond b m r.round
  unfolding in_round
  in_round_as true e = ap (λ (b : Bool). (cond b (blank_of m) r).round) e
  in_round_as false e = ap (λ (b : Bool). (cond b (blank_of m) r).round) e

  -- a record that is in the round stands as it is
  pub in_round_stays : r.round ≡ m → in_round m r ≡ r
  unfolding in_round
  in_round_stays e = ap (λ (b : Bool). cond b (blank_of m) r) (ap (ahead m) e ∙ not_ahead_itself m)

  -- it is in the message's round, unless that is behind
  pub in_round_at : behind m r.round ≡ false → (in_round m r).round ≡ m
  in_round_at e = at (ahead m r.round) refl
    where
      at : (b : Bool) → ahead m r.round ≡ b → (in_round m r).round ≡ m
      at true f = in_round_as true f
      at false f = in_round_as false f ∙ (let h = ltb-false r.round m (sym (higher m r.round) ∙ f) in omega (arith, not_behind m r.round e))

  -- one that is in a lower round is blank
  pub in_round_blank : r.round < m → in_round m r ≡ blank_of m
  unfolding in_round
  in_round_blank h = ap (λ (b : Bool). cond b (blank_of m) r) ((ahead_iff m r.round).1 h)

  -- it exists, if the message's does
  exists_as : (b : Bool) → ahead m r.round ≡ b → no_round m ≡ false → r.round ≤ last_round → no_round (in_round m r).round ≡ false
  exists_as true e f h = ap no_round (in_round_as true e) ∙ f
  exists_as false e f h =
      let p : m ≤ r.round = ltb-false r.round m (rw (higher m r.round) at e) in
      ap no_round (in_round_as false e) ∙ range_round r.round (omega (arith, round_range m f)) h

  pub in_round_exists : no_round m ≡ false → r.round ≤ last_round → no_round (in_round m r).round ≡ false
  in_round_exists = exists_as (ahead m r.round) refl

  not_ahead_as : (highest : ℕ) (b : Bool) → ahead m r.round ≡ b → ahead m highest ≡ false → ahead r.round highest ≡ false → ahead (in_round m r).round highest ≡ false
  not_ahead_as highest true e f g = ap (λ (x : ℕ). ahead x highest) (in_round_as true e) ∙ f
  not_ahead_as highest false e f g = ap (λ (x : ℕ). ahead x highest) (in_round_as false e) ∙ g

  -- and is above none that both are not above
  pub in_round_not_ahead : (highest : ℕ) → ahead m highest ≡ false → ahead r.round highest ≡ false → ahead (in_round m r).round highest ≡ false
  in_round_not_ahead highest = not_ahead_as highest (ahead m r.round) refl
