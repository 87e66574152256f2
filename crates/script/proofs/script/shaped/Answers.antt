-- `shaped` meets its contract. Assumes nothing.
use mathlib.Core.Bool.{not}
use mathlib.Core.Path.{ap}
use native.Mathlib.Omega.{arith}
use borrow.Author.Tests.{not-false}
use Rattle.lemmas.proofs.Cases.{flag}
use Rattle.script.proofs.Shapes.{no_shape_told, shape_is}
use Rattle.script.proofs.script.shaped.Goals as goal
use Rattle.script.proofs.script.shaped.Goals.{then-numbers-lt4-via-then-numbers-lt4, then-numbers-lt4-via-else-numbers-lt4+then-numbers-gt-MOST}
use Rattle.script.proofs.script.shaped.Goals.{then-room-gt-MOST-via-then-room-gt-MOST, then-room-gt-MOST-via-else-room-gt-MOST+then-steps-gt-MOST}
use Rattle.script.proofs.script.shaped.Goals.{then-numbers-from-2-via-then-numbers-from-2, then-numbers-from-2-via-else-numbers-from-2+then-not-good_steps}

pub returns-then-numbers-lt4 : goal.returns-then-numbers-lt4
returns-then-numbers-lt4 c =
    no_shape_told _ (λ p.
    elim c.then-numbers-lt4.branch [
      | then-numbers-lt4-via-then-numbers-lt4 w ↦ omega (arith, p.enough)
      | then-numbers-lt4-via-else-numbers-lt4+then-numbers-gt-MOST w ↦ omega (arith, p.few_rows)
    ])

pub returns-then-numbers-from : goal.returns-then-numbers-from
returns-then-numbers-from c = no_shape_told _ (λ p. omega (arith, p.enough))

pub returns-then-room-gt-MOST : goal.returns-then-room-gt-MOST
returns-then-room-gt-MOST c =
    no_shape_told _ (λ p.
    elim c.then-room-gt-MOST.branch [
      | then-room-gt-MOST-via-then-room-gt-MOST w ↦ omega (arith, p.small_room_lem)
      | then-room-gt-MOST-via-else-room-gt-MOST+then-steps-gt-MOST w ↦ omega (arith, p.few_steps)
    ])

pub returns-then-numbers-from-2 : goal.returns-then-numbers-from-2
returns-then-numbers-from-2 c =
    no_shape_told _ (λ p.
    elim c.then-numbers-from-2.branch [
      | then-numbers-from-2-via-then-numbers-from-2 w ↦ w.if-numbers-from-2.true p.size
      | then-numbers-from-2-via-else-numbers-from-2+then-not-good_steps w ↦ absurd (cc (p.good, w.good_steps.ensures, w.if-not-good_steps.true))
    ])

pub returns : goal.returns
returns c = shape_is _ (record {
  enough = c.if-numbers-from.false;
  few_rows = c.if-numbers-gt-MOST.false;
  small_room_lem = c.if-room-gt-MOST.false;
  few_steps = c.if-steps-gt-MOST.false;
  size = c.if-numbers-from-2.false;
  good = flag c.good_steps.ensures (not-false _ (ap not c.if-not-good_steps.false));
})
