-- What changes nothing: an old, stray or repeated message. Assumes nothing.
use mathlib.Core.Path.{◌≡◌, sym}
use Prim.Native.Nat.{ℕ, ◌+◌, ◌≤◌}
use native.Mathlib.Nat.{add-zero}
use native.Mathlib.Omega.{arith}
use borrow.Author.Tests.{le-ltb}
use Rattle.lemmas.proofs.Cases.{at_false}
use Rattle.nodes.specs.Sets.{members_from, members}
use Rattle.std.specs.Prelude.{Result}
use Rattle.waits.specs.declared.refusals.Refusal.{Refusal}
use Rattle.step.specs.declared.answers.Answer.{Answer}
use Rattle.step.specs.Step.{still}
use Rattle.step.specs.Letters.{letters_of}
use Rattle.lent.specs.Kept.{state_at}
use Rattle.lent.proofs.Back.{record_stands}
use Rattle.bench.specs.Bench.{Bench, bench, after, room}
use Rattle.bench.specs.Steps.{refuse, join}
use Rattle.waits.specs.declared.refusals.Reason.TheVariants.{FullRoom}

-- Theorem: an old, stray or repeated message changes nothing at all, and so always fits the room.
pub still_joins : (b : Bench) (i : ℕ) (a : Result Answer Refusal) → b.sent ≤ room b → join b b.highest i (still (state_at b.records i) a) ≡ after b a
unfolding join letters_of members members_from
still_joins b i a h =
    let none : b.sent + 0 ≡ b.sent = add-zero b.sent in
    sym (at_false (refuse FullRoom b) (le-ltb (room b) (b.sent + 0) (omega arith))
    (λ k. after (bench (sym (record_stands b.records i) k) b.messages (sym none k) b.highest) a))
