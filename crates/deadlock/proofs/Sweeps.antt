-- Sweeps that only ever add nodes come to rest: after as many as there are nodes, a visit changes nothing. Assumes nothing.
use mathlib.Core.Path.{◌≡◌, refl, sym, ap, ◌∙◌, subst}
use mathlib.Core.Logic.{◌⊎◌, inl, inr, ⊎_elim}
use Prim.Native.Nat.{ℕ, zero, suc, ◌+◌, ◌≤◌, ◌<◌, zero-le}
use native.Mathlib.Nat.{le_refl, le_of_suc-le-suc, eq-or-lt_of_le}
use native.Mathlib.Numerals.{add-one}
use native.Mathlib.Omega.{arith}
use native.Mathlib.Decide.{dec_lt}
use Rattle.nodes.specs.Sets.{bit, Inside, minus, below, size}
use Rattle.nodes.proofs.Inside.{inside_both, inside_lt, inside_trans, minus_none}
use Rattle.nodes.proofs.Size.{size_le, size_same}
use Rattle.deadlock.specs.Sweeps.{sweep, sweeps}

-- ---- one step more, as a loop counts it
module _ (visit : ℕ → ℕ → ℕ) where
  pub sweep_none : (g : ℕ) → sweep visit 0 g ≡ g
  unfolding sweep
  sweep_none g = refl

  pub sweep_more : (k g s r : ℕ) → s ≡ sweep visit k g → r ≡ visit k s → r ≡ sweep visit (k + 1) g
  unfolding sweep
  sweep_more k g s r e f = rw (add-one k) (f ∙ ap (visit k) e)

  pub sweep_whole : (k n g s : ℕ) → k ≡ n → s ≡ sweep visit k g → s ≡ sweep visit n g
  sweep_whole k n g s e f = f ∙ ap (λ (x : ℕ). sweep visit x g) e

  pub sweeps_none : (n g : ℕ) → sweeps visit n 0 g ≡ g
  unfolding sweeps
  sweeps_none n g = refl

  pub sweeps_more : (n t g s r : ℕ) → s ≡ sweeps visit n t g → r ≡ sweep visit n s → r ≡ sweeps visit n (t + 1) g
  unfolding sweeps
  sweeps_more n t g s r e f = rw (add-one t) (f ∙ ap (sweep visit n) e)

  pub sweeps_whole : (n t g s : ℕ) → t ≡ n → s ≡ sweeps visit n t g → s ≡ sweeps visit n n g
  sweeps_whole n t g s e f = f ∙ ap (λ (x : ℕ). sweeps visit n x g) e

  -- what every visit keeps, sweeps keep
  sweep_keeps : (P : ℕ → Type 0) (n : ℕ) → ((k g : ℕ) → k < n → P g → P (visit k g)) → (k g : ℕ) → k ≤ n → P g → P (sweep visit k g)
  unfolding sweep
  sweep_keeps P n f zero g h p = p
  sweep_keeps P n f (suc k) g h p = f k (sweep visit k g) h (sweep_keeps P n f k g (omega arith) p)

  pub sweeps_keep : (P : ℕ → Type 0) (n : ℕ) → ((k g : ℕ) → k < n → P g → P (visit k g)) → (t g : ℕ) → P g → P (sweeps visit n t g)
  unfolding sweeps
  sweeps_keep P n f zero g p = p
  sweeps_keep P n f (suc t) g p = sweep_keeps P n f n (sweeps visit n t g) (le_refl n) (sweeps_keep P n f t g p)

  -- a sweep that changed nothing: no later one does
  sweeps_rest : (n t g u : ℕ) → sweep visit n (sweeps visit n t g) ≡ sweeps visit n t g → t ≤ u → sweeps visit n u g ≡ sweeps visit n t g
  unfolding sweeps
  sweeps_rest n t g zero e h = ap (λ (x : ℕ). sweeps visit n x g) (let q : 0 ≡ t = omega arith in q)
  sweeps_rest n t g (suc u) e h =
      let ih = sweeps_rest n t g u e in
      ⊎_elim
      (λ (q : t ≡ suc u). ap (λ (x : ℕ). sweeps visit n x g) (sym q))
      (λ (q : t < suc u). ap (sweep visit n) (ih (le_of_suc-le-suc q)) ∙ e)
      (eq-or-lt_of_le h)

-- ---- visits that only ever add nodes
module _ (visit : ℕ → ℕ → ℕ) (grows : (k g : ℕ) → Inside g (visit k g)) where
  sweep_grows : (k g : ℕ) → Inside g (sweep visit k g)
  sweep_grows k g = sweep_keeps visit (λ (x : ℕ). Inside g x) k (λ j x h p. inside_trans g x (visit j x) p (grows j x)) k g (le_refl k) (λ j. le_refl (bit g j))

  sweep_onward : (k m g : ℕ) → k ≤ m → Inside (sweep visit k g) (sweep visit m g)
  unfolding sweep
  sweep_onward k zero g h = subst (λ (x : ℕ). Inside (sweep visit x g) g) (let q : 0 ≡ k = omega arith in q) (λ j. le_refl (bit g j))
  sweep_onward k (suc m) g h =
      let ih = sweep_onward k m g in
      ⊎_elim
      (λ (q : k ≡ suc m). subst (λ (x : ℕ). Inside (sweep visit k g) (sweep visit x g)) q (λ j. le_refl (bit (sweep visit k g) j)))
      (λ (q : k < suc m). inside_trans _ _ _ (ih (le_of_suc-le-suc q)) (grows m (sweep visit m g)))
      (eq-or-lt_of_le h)

  -- a sweep that added nobody is the last that is needed
  pub nobody_new : (n t g s r : ℕ) → t ≤ n → s ≡ sweeps visit n t g → r ≡ sweep visit n s → minus r s ≡ 0 → s ≡ sweeps visit n n g
  nobody_new n t g s r h e f z =
      let still : sweep visit n s ≡ s = sym f ∙ inside_both r s (minus_none r s z) (rw f (sweep_grows n s)) in
      e ∙ sym (sweeps_rest visit n t g n (rw (← e) still) h)

  -- a sweep that changed nothing: no visit of it did
  rest_visit : (n g : ℕ) → sweep visit n g ≡ g → (k : ℕ) → k < n → visit k g ≡ g
  rest_visit n g e k h = sweep_more visit k g g (visit k g) (sym (at k (omega arith))) refl ∙ at (k + 1) (omega arith)
    where
      at : (j : ℕ) → j ≤ n → sweep visit j g ≡ g
      at j l =
          inside_both (sweep visit j g) g (subst (λ (x : ℕ). Inside (sweep visit j g) x) e (sweep_onward j n g l)) (sweep_grows j g)

-- ---- and only nodes below n
module _ (n : ℕ) (visit : ℕ → ℕ → ℕ) (grows : (k g : ℕ) → Inside g (visit k g))
    (stays : (k g : ℕ) → k < n → Inside g (below n) → Inside (visit k g) (below n)) where
  sweeps_stay : (t g : ℕ) → Inside g (below n) → Inside (sweeps visit n t g) (below n)
  sweeps_stay = sweeps_keep visit (λ (x : ℕ). Inside x (below n)) n stays

  -- each sweep adds a node, or all is at rest
  rest_or_more : (g : ℕ) → Inside g (below n) → (t : ℕ)
      → (t ≤ size (sweeps visit n t g)) ⊎ (sweep visit n (sweeps visit n t g) ≡ sweeps visit n t g)
  unfolding sweeps
  rest_or_more g i zero = inl zero-le
  rest_or_more g i (suc t) = go (rest_or_more g i t) (dec_lt (size x) (size (sweep visit n x)))
    where
      x : ℕ
      x = sweeps visit n t g

      go : (t ≤ size x) ⊎ (sweep visit n x ≡ x) → Dec (size x < size (sweep visit n x))
          → (suc t ≤ size (sweep visit n x)) ⊎ (sweep visit n (sweep visit n x) ≡ sweep visit n x)
      go (inl l) (yes m) = inl (omega arith)
      go (inl l) (no m) = inr (ap (sweep visit n) (sym (size_same x (sweep visit n x) (sweep_grows visit grows n x) (omega arith))))
      go (inr e) d = inr (ap (sweep visit n) e)

  sweeps_end : (g : ℕ) → Inside g (below n) → sweep visit n (sweeps visit n n g) ≡ sweeps visit n n g
  sweeps_end g i = ⊎_elim full (λ e. e) (rest_or_more g i n)
    where
      x : ℕ
      x = sweeps visit n n g

      inside : Inside (sweep visit n x) (below n)
      inside = sweep_keeps visit (λ (y : ℕ). Inside y (below n)) n stays n x (le_refl n) (sweeps_stay n g i)

      full : n ≤ size x → sweep visit n x ≡ x
      full h = sym (size_same x (sweep visit n x) (sweep_grows visit grows n x) (omega (arith, size_le n (sweep visit n x) (inside_lt n (sweep visit n x) inside))))

  -- Law: after n sweeps a visit changes nothing.
  pub sweeps_settle : (g : ℕ) → Inside g (below n) → (k : ℕ) → k < n → visit k (sweeps visit n n g) ≡ sweeps visit n n g
  sweeps_settle g i = rest_visit visit grows n (sweeps visit n n g) (sweeps_end g i)

-- what a loop over the nodes cites, and one over sweeps
pub ruleset visiting = (sweep_none, sweep_more, sweep_whole)

pub ruleset sweeping = (sweeps_none, sweeps_more, sweeps_whole)
