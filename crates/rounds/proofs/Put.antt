-- One record is put, and all others stay. Assumes nothing.
use mathlib.Core.Path.{◌≡◌, refl, sym, ap, subst}
use mathlib.Core.Bool.{Bool, cond}
use Prim.Native.Nat.{ℕ}
use native.Mathlib.Decide.{ℕ_discrete}
use borrow.Author.Tests.{eq-eqb, ne_eqb}
use Rattle.records.specs.Records.{State}
use Rattle.rounds.specs.Course.{put}

module _ (records : ℕ → State) (i : ℕ) (s : State) where
  pub put_same : put records i s i ≡ s
  unfolding put
  put_same = ap (λ (b : Bool). cond b s (records i)) (eq-eqb i i refl)

  pub put_other : (k : ℕ) → (k ≡ i → ⊥) → put records i s k ≡ records k
  unfolding put
  put_other k d = ap (λ (b : Bool). cond b s (records k)) (ne_eqb k i d)

-- what is so at one node and at all others
pub everywhere : (P : ℕ → Type 0) (i : ℕ) → P i → ((k : ℕ) → (k ≡ i → ⊥) → P k) → (k : ℕ) → P k
everywhere P i here others k = go (ℕ_discrete k i)
  where
    go : Dec (k ≡ i) → P k
    go (yes e) = subst P (sym e) here
    go (no d) = others k d

-- what is so of the record that is put, and of all others as they were
pub put_all : (P : ℕ → State → Type 0) (records : ℕ → State) (i : ℕ) (s : State) → P i s → ((k : ℕ) → (k ≡ i → ⊥) → P k (records k))
    → (k : ℕ) → P k (put records i s k)
put_all P records i s here others = everywhere (λ k. P k (put records i s k)) i
    (subst (P i) (sym (put_same records i s)) here)
    (λ k d. subst (P k) (sym (put_other records i s k d)) (others k d))

-- a record that is put where it stands changes nothing
pub put_still : (records : ℕ → State) (i : ℕ) (s : State) → s ≡ records i → (k : ℕ) → put records i s k ≡ records k
put_still records i s e = put_all (λ k x. x ≡ records k) records i s e (λ k d. refl)
