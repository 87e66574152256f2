-- An answer at once, and an answer that is held back: sets of whom a record says it has answered. Assumes nothing.
use mathlib.Core.Path.{◌≡◌, refl}
use mathlib.Core.Bool.{Bool, true, false, cond}
use Prim.Native.Nat.{ℕ, ◌+◌}
use native.Mathlib.Omega.{arith}
use Rattle.nodes.specs.Sets.{bit, Inside, union, meet, minus, single, with}
use Rattle.nodes.proofs.Bit.{bit_le, same, bit_empty, empty_same}
use Rattle.nodes.proofs.Operations.{bit_union, bit_meet, bit_minus, bit_with, single_apart}
use Rattle.step.specs.Step.{newly}
use Rattle.step.specs.Sent.{answered, Adds}

-- member by member: each is of one of the two, and of one only
adds : (x now after : ℕ) → ((k : ℕ) → bit after k ≡ bit x k + bit now k) → Adds x now after
adds x now after h = (
  same after (union x now) (λ k. omega (arith, h k, bit_le after k, bit_union x now k)),
  empty_same (meet x now) (λ k. omega (arith, h k, bit_le after k, bit_meet x now k)),
)

pub adds_none : (x : ℕ) → Adds x 0 x
adds_none x = adds x 0 x (λ k. omega (arith, bit_empty k))

pub adds_all : (x : ℕ) → Adds 0 x x
adds_all x = adds 0 x x (λ k. omega (arith, bit_empty k))

-- who gets the answer that was held back
abbrev late : Bool → Bool → ℕ → ℕ
late before after t = cond (newly before after) t 0

no_more : (x : ℕ) → Adds x (union 0 0) x
no_more x = adds x (union 0 0) x (λ k. omega (arith, bit_union 0 0 k, bit_empty k))

-- ---- an answer that may become ready, with nobody new
module _ (h t : ℕ) (i : Inside t h) where
  pub adds_late : (b c : Bool) → (b ≡ true → c ≡ true) → Adds (answered b h t) (union 0 (late b c t)) (answered c h t)
  adds_late true c up = rw (up refl) (no_more h)
  adds_late false true up = adds (minus h t) (union 0 t) h (λ k. omega (arith, bit_union 0 t k, bit_empty k, bit_minus h t k, i k))
  adds_late false false up = no_more (minus h t)

  -- ---- an answer at once to somebody new
  pub adds_once : (a : ℕ) → bit h a ≡ 0 → (b : Bool) → Adds (answered b h t) (union (single a) (late b b t)) (answered b (with h a) t)
  adds_once a z true = adds h (union (single a) 0) (with h a) (λ k. omega (arith, bit_union (single a) 0 k, bit_empty k, bit_with h a k, single_apart h a k z))
  adds_once a z false = adds (minus h t) (union (single a) 0) (minus (with h a) t) (λ k.
      omega (arith, bit_union (single a) 0 k, bit_empty k, bit_minus h t k, bit_minus (with h a) t k, bit_with h a k, single_apart h a k z, i k))

-- ---- somebody new whose answer is held back, where nobody's was
pub adds_held : (h a : ℕ) → bit h a ≡ 0 → (c : Bool) → Adds (minus h 0) (union 0 (late false c (single a))) (answered c (with h a) (single a))
adds_held h a z true = adds (minus h 0) (union 0 (single a)) (with h a) (λ k.
    omega (arith, bit_union 0 (single a) k, bit_empty k, bit_minus h 0 k, bit_with h a k, single_apart h a k z))
adds_held h a z false = adds (minus h 0) (union 0 0) (minus (with h a) (single a)) (λ k.
    omega (arith, bit_union 0 0 k, bit_empty k, bit_minus h 0 k, bit_minus (with h a) (single a) k, bit_with h a k, single_apart h a k z))

-- ---- nobody new, and nobody's answer is held back, before or after
pub adds_still : (h : ℕ) (c : Bool) → Adds (minus h 0) (union 0 (late false c 0)) (answered c h 0)
adds_still h true = adds (minus h 0) (union 0 0) h (λ k. omega (arith, bit_union 0 0 k, bit_empty k, bit_minus h 0 k))
adds_still h false = no_more (minus h 0)
