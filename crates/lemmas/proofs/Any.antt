-- A test of some number in a list, and of some number below one. Assumes nothing.
use mathlib.Core.Path.{◌≡◌, refl, sym, ap, ap₂, ◌∙◌}
use mathlib.Core.Bool.{Bool, true, false, ◌||◌, false≢true}
use mathlib.Core.Logic.{⊎_elim, ◌↔◌}
use mathlib.Core.List.{List, [], ◌∷◌, ◌++◌, map, Memᴰ}
use mathlib.Core.List.Memᴰ.{head as here}
use mathlib.Core.List.Memᴰ.{tail as there}
use Prim.Native.Nat.{ℕ, zero, suc, ◌+◌, ◌≤◌, ◌<◌}
use native.Mathlib.Nat.{not-suc-le-zero, le_of_suc-le-suc, eq-or-lt_of_le}
use native.Mathlib.Numerals.{add-one}
use native.Mathlib.Omega.{arith}
use lib.ListN.{length, get_or, drop}
use Rattle.lemmas.specs.Lists.{any_of, any_below}
use Rattle.lemmas.proofs.Walks.{Left, left_next, left_passed, left_ended}
use Rattle.lemmas.proofs.Tests.{not_both, not_true_false, or_left_false, or_right_false, or_cases, or_intro_left, or_intro_right}

-- ---- a test of some member
pub any_some : (p : ℕ → Bool) (l : List ℕ) → any_of p l ≡ true → (x : ℕ) × Memᴰ x l × (p x ≡ true)
any_some p [] e = absurd (false≢true e)
any_some p (a ∷ l) e =
    let ih = any_some p l in
    ⊎_elim
    (λ (h : p a ≡ true). (a, here refl, h))
    (λ (h : any_of p l ≡ true). let s = ih h in (s.0, there s.1, s.2))
    (or_cases (p a) (any_of p l) e)

pub some_any : (p : ℕ → Bool) (l : List ℕ) (x : ℕ) → Memᴰ x l → p x ≡ true → any_of p l ≡ true
some_any p (a ∷ l) x (here e) h = or_intro_left (p a) (any_of p l) (rw e at h)
some_any p (a ∷ l) x (there m) h = or_intro_right (p a) (any_of p l) (some_any p l x m h)
some_any p [] x x4 h = elim x4 [ ]

-- Law: none meets it exactly if each doesn't.
pub any_none : (p : ℕ → Bool) (l : List ℕ) → (any_of p l ≡ false) ↔ ((x : ℕ) → Memᴰ x l → p x ≡ false)
any_none p l = (
  λ e x m. not_true_false _ (λ t. not_both (some_any p l x m t) e),
  λ f. not_true_false _ (λ t. let s = any_some p l t in not_both s.2 (f s.0 s.1)),
)

-- no number of the list meets it, so the one at a place doesn't
pub none_at : (p : ℕ → Bool) (l : List ℕ) (at : ℕ) → at < length l → any_of p l ≡ false → p (get_or l at 0) ≡ false
none_at p [] at h e = absurd (not-suc-le-zero h)
none_at p (a ∷ l) zero h e = or_left_false (p a) (any_of p l) e
none_at p (a ∷ l) (suc at) h e = none_at p l at (le_of_suc-le-suc h) (or_right_false (p a) (any_of p l) e)

pub any_append : (p : ℕ → Bool) (l m : List ℕ) → any_of p l ≡ false → any_of p m ≡ false → any_of p (l ++ m) ≡ false
any_append p [] m e f = f
any_append p (a ∷ l) m e f = ap₂ ◌||◌ (or_left_false (p a) (any_of p l) e) (any_append p l m (or_right_false (p a) (any_of p l) e) f)

pub any_map : {A : Type 0} (p : ℕ → Bool) (f : A → ℕ) (l : List A) → ((x : A) → Memᴰ x l → p (f x) ≡ false) → any_of p (map f l) ≡ false
any_map p f [] h = refl
any_map p f (a ∷ l) h = ap₂ ◌||◌ (h a (here refl)) (any_map p f l (λ x m. h x (there m)))

-- what fails a test fails one that is met less often
pub any_weaker : (p q : ℕ → Bool) (l : List ℕ) → ((x : ℕ) → p x ≡ false → q x ≡ false) → any_of p l ≡ false → any_of q l ≡ false
any_weaker p q [] h e = refl
any_weaker p q (a ∷ l) h e = ap₂ ◌||◌ (h a (or_left_false (p a) (any_of p l) e)) (any_weaker p q l h (or_right_false (p a) (any_of p l) e))

-- ---- a walk that tests one number after another: the answer is that of the numbers from a place on
abbrev pub AnyLeft : (ℕ → Bool) → List ℕ → ℕ → Type 0
AnyLeft p l at = Left (any_of p) l at

module _ (p : ℕ → Bool) (l : List ℕ) (at : ℕ) (left : AnyLeft p l at) where
  pub any_passed : at < length l → p (get_or l at 0) ≡ false → AnyLeft p l (at + 1)
  any_passed h e = left_passed (any_of p) l at left h (ap (λ (b : Bool). b || any_of p (drop (suc at) l)) e)

  pub any_found : at < length l → p (get_or l at 0) ≡ true → true ≡ any_of p l
  any_found h e = sym (left_next (any_of p) l at left h ∙ ap (λ (b : Bool). b || any_of p (drop (suc at) l)) e)

  pub any_ended : length l ≤ at → false ≡ any_of p l
  any_ended h = left_ended (any_of p) l at left h

-- ---- a test of some number below n
pub none_below : (p : ℕ → Bool) (n i : ℕ) → i < n → any_below p n ≡ false → p i ≡ false
none_below p zero i h e = absurd (not-suc-le-zero h)
none_below p (suc n) i h e =
    ⊎_elim
    (λ (q : i ≡ n). rw q (or_right_false (any_below p n) (p n) e))
    (λ (l : i < n). none_below p n i l (or_left_false (any_below p n) (p n) e))
    (eq-or-lt_of_le (le_of_suc-le-suc h))

pub below_next : (p : ℕ → Bool) (n : ℕ) → any_below p n ≡ false → p n ≡ false → any_below p (n + 1) ≡ false
below_next p n e f = rw (add-one n) (ap₂ ◌||◌ e f)

pub all_below : (p : ℕ → Bool) (n : ℕ) → ((i : ℕ) → i < n → p i ≡ false) → any_below p n ≡ false
all_below p zero h = refl
all_below p (suc n) h = ap₂ ◌||◌ (all_below p n (λ i l. h i (omega arith))) (h n (omega arith))

pub some_below : (p : ℕ → Bool) (n i : ℕ) → i < n → p i ≡ true → true ≡ any_below p n
some_below p n i h e = sym (not_false_true (any_below p n) (λ f. not_both e (none_below p n i h f)))
  where
    not_false_true : (b : Bool) → (b ≡ false → ⊥) → b ≡ true
    not_false_true true f = refl
    not_false_true false f = absurd (f refl)
