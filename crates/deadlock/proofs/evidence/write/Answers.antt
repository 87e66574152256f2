-- `write` meets its contract. The loop's invariant: the members passed stand in front, and the rest is as found. Assumes nothing.
use mathlib.Core.Path.{refl}
use native.Mathlib.Omega.{arith}
use Rattle.deadlock.proofs.Writing.{wrote_below, wrote_room, wrote_one, wrote_all}
use Rattle.deadlock.proofs.evidence.write.Goals as goal

pub overflow_cast-room : goal.overflow_cast-room
overflow_cast-room c = omega (arith, wrote_below _ _ _ _ _ c.loop-k.invariant c.in-Some.ensures.steps _ c.requires.1)

pub bounds-room-at : goal.bounds-room-at
bounds-room-at c = omega (arith, wrote_room _ _ _ _ _ c.loop-k.invariant c.in-Some.ensures.steps _ c.requires.0)

pub loop-k-preserved : goal.loop-k-preserved
loop-k-preserved c =
    let r = wrote_room _ _ _ _ _ c.loop-k.invariant c.in-Some.ensures.steps _ c.requires.0 in
    wrote_one _ _ _ _ _ c.loop-k.invariant c.in-Some.ensures.steps (omega (arith, r)) refl refl

pub returns : goal.returns
returns c = wrote_all _ _ _ _ _ c.loop-k.invariant c.in-None.ensures.steps.0
