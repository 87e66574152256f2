-- `play` meets its contract: its lists are zeros, so that what it began with is a fresh bench. Assumes nothing.
use mathlib.Core.Path.{◌≡◌, ap, refl, sym}
use Prim.Native.Nat.{◌+◌, ◌-◌, ◌≤◌, ℕ}
use native.Mathlib.Omega.{arith}
use lib.ListN.{drop, length, take}
use lib.Seq.{length-take-le}
use Rattle.text.proofs.Writing.{wrote_as}
use Rattle.transcript.proofs.Fresh.{begin_as}
use Rattle.transcript.proofs.Settle.{first_fit, played_as}
use Rattle.transcript.proofs.play.Goals as goal

pub slice_bounds-messages-end-2 : goal.slice_bounds-messages-end-2
slice_bounds-messages-end-2 c =
    let enough : c.args.shape.steps ≤ length c.args.steps.now = omega (arith, c.told-steps, c.requires.2) in
    (begin_as _ _ _ _ _ (first_fit _ 8192 _ enough c.requires.2) _ _ _ _ _ _ _ _ c.record_numbers-size.ensures.0 c.record_numbers-size.ensures.1 c.records_room-records.ensures c.requires.1 refl c.run-ran.ensures).listed

pub slice_bounds-tell-end-2 : goal.slice_bounds-tell-end-2
slice_bounds-tell-end-2 c =
    let enough : c.args.shape.steps ≤ length c.args.steps.now = omega (arith, c.told-steps, c.requires.2) in
    sym (length-take-le _ _ (begin_as _ _ _ _ _ (first_fit _ 8192 _ enough c.requires.2) _ _ _ _ _ _ _ _ c.record_numbers-size.ensures.0 c.record_numbers-size.ensures.1 c.records_room-records.ensures c.requires.1 refl c.run-ran.ensures).listed)

pub returns : goal.returns
returns c =
    let enough : c.args.shape.steps ≤ length c.args.steps.now = omega (arith, c.told-steps, c.requires.2) in
    let rows : c.args.shape.rows + 2 - 2 ≡ c.args.shape.rows = omega arith in
    let says = begin_as _ _ _ _ _ (first_fit _ 8192 _ enough c.requires.2) _ _ _ _ _ _ _ _ c.record_numbers-size.ensures.0 c.record_numbers-size.ensures.1 c.records_room-records.ensures c.requires.1 refl c.run-ran.ensures in
    wrote_as (played_as c.args.numbers.now _ _ _ _ _ _ enough (ap (λ (k : ℕ). take k (drop 2 c.args.numbers.now)) rows) says) c.tell.ensures
