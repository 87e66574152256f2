-- What meets a condition, member by member: only those that the node waits on count, and more of them never unmeet it. Assumes nothing.
use mathlib.Core.Path.{◌≡◌, sym, ◌∙◌}
use mathlib.Core.Bool.{true}
use Prim.Native.Nat.{ℕ, ◌<◌}
use native.Mathlib.Omega.{arith}
use Rattle.nodes.specs.Sets.{In, meet}
use Rattle.nodes.proofs.Bit.{bit_le}
use Rattle.nodes.proofs.Operations.{bit_meet, in_meet}
use Rattle.nodes.proofs.Inside.{inside_in}
use Rattle.waits.specs.Waits.{Waits, Lawful}

pub still_holds : (w : Waits) → Lawful w → (i g h : ℕ) → i < w.nodes → ((j : ℕ) → In j (w.out i) → In j g → In j h) → w.holds i g ≡ true → w.holds i h ≡ true
still_holds w lawful i g h n more e =
    lawful.monotone i (meet g (w.out i)) h n
    (inside_in _ _ (λ j m. let p = (in_meet g (w.out i) j).0 m in more j p.1 p.0))
    (sym (lawful.local i g (meet g (w.out i)) n (λ j m. omega (arith, bit_le g j, bit_meet g (w.out i) j))) ∙ e)
