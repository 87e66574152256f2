-- The order in which nodes came to be called, or free: each after the one through which it did. One law for both. Assumes nothing.
use mathlib.Core.Path.{◌≡◌, refl, sym, ap, ◌∙◌, subst}
use mathlib.Core.Bool.{true, false}
use mathlib.Core.Logic.{◌⊎◌, inl, inr, ⊎_elim}
use mathlib.Core.List.{List, [], ◌∷◌, Memᴰ}
use mathlib.Core.List.Memᴰ.{head as here}
use mathlib.Core.List.Memᴰ.{tail as there}
use Prim.Native.Nat.{ℕ}
use Rattle.lemmas.specs.Lists.{Once}
use Rattle.lemmas.proofs.Tests.{not_both, true_or_false}
use Rattle.nodes.specs.Sets.{In}
use Rattle.records.specs.declared.causes.Why.{Why}
use Rattle.records.specs.Causes.{happened, sender_of}
use Rattle.rounds.proofs.Members.{sender_happened}
use Rattle.rounds.proofs.Put.{everywhere}

-- through whom each node of a list came to be so, stands behind it
abbrev pub Behind : (ℕ → Why) → List ℕ → Type 0
Behind f [] = Unit {0}
Behind f (i ∷ l) = ((j : ℕ) → In j (sender_of (f i)) → Memᴰ j l) × Behind f l

-- the nodes of which it is so, each once, the newest first
pub record Order (f : ℕ → Why) (l : List ℕ) : Type 0 where
  pub listed : (i : ℕ) → happened (f i) ≡ true → Memᴰ i l
  pub only : (i : ℕ) → Memᴰ i l → happened (f i) ≡ true
  pub once : Once l
  pub behind : Behind f l

pub order_none : (f : ℕ → Why) → ((i : ℕ) → happened (f i) ≡ false) → Order f []
order_none f none = record {
  listed = λ i e. absurd (not_both e (none i));
  only = λ i m. absurd (elim m [ ]);
  once = tt;
  behind = tt;
}

-- wherever a node stands in the list, so does the one through which it came to be so
behind_in : (f : ℕ → Why) (l : List ℕ) → Behind f l → (i j : ℕ) → Memᴰ i l → In j (sender_of (f i)) → Memᴰ j l
behind_in f (x ∷ l) b i j (here e) m = there (b.0 j (subst (λ (y : ℕ). In j (sender_of (f y))) e m))
behind_in f (x ∷ l) b i j (there n) m = there (behind_in f l b.1 i j n m)
behind_in f [] b i j x3 m = elim x3 [ ]

behind_same : (f g : ℕ → Why) (l : List ℕ) → ((i : ℕ) → Memᴰ i l → g i ≡ f i) → Behind f l → Behind g l
behind_same f g [] e b = tt
behind_same f g (i ∷ l) e b = (
  λ j m. b.0 j (subst (λ (y : Why). In j (sender_of y)) (e i (here refl)) m),
  behind_same f g l (λ k n. e k (there n)) b.1,
)

-- the list as it was, or with the node in front
pub data Grown (f g : ℕ → Why) (b : ℕ) (l : List ℕ) : List ℕ → Type 0 where
  same : Grown f g b l l
  newer : happened (f b) ≡ false → happened (g b) ≡ true → Grown f g b l (b ∷ l)

-- ---- one node may come to be so: once it is, it stays so through the same node, and the one through which it comes is so already
module _ (f g : ℕ → Why) (b : ℕ)
    (others : (i : ℕ) → (i ≡ b → ⊥) → g i ≡ f i)
    (kept : happened (f b) ≡ true → g b ≡ f b)
    (through : (j : ℕ) → In j (sender_of (g b)) → happened (f j) ≡ true)
    (l : List ℕ) (o : Order f l) where
  same_listed : (i : ℕ) → Memᴰ i l → g i ≡ f i
  same_listed = everywhere (λ i. Memᴰ i l → g i ≡ f i) b (λ m. kept (o.only b m)) (λ i d m. others i d)

  still : (happened (g b) ≡ true → happened (f b) ≡ true) → Order g l
  still h = record {
    listed = everywhere (λ i. happened (g i) ≡ true → Memᴰ i l) b (λ e. o.listed b (h e)) (λ i d e. o.listed i (ap happened (sym (others i d)) ∙ e));
    only = λ i m. ap happened (same_listed i m) ∙ o.only i m;
    once = o.once;
    behind = behind_same f g l same_listed o.behind;
  }

  more : happened (f b) ≡ false → happened (g b) ≡ true → Order g (b ∷ l)
  more out now = record {
    listed = everywhere (λ i. happened (g i) ≡ true → Memᴰ i (b ∷ l)) b (λ e. here refl) (λ i d e. there (o.listed i (ap happened (sym (others i d)) ∙ e)));
    only = λ i m. first i m;
    once = (λ m. not_both (o.only b m) out, o.once);
    behind = (λ j m. o.listed j (through j m), behind_same f g l same_listed o.behind);
  }
    where
      first : (i : ℕ) → Memᴰ i (b ∷ l) → happened (g i) ≡ true
      first i (here e) = ap (λ (y : ℕ). happened (g y)) e ∙ now
      first i (there m) = ap happened (same_listed i m) ∙ o.only i m

  pub order_step : (k : List ℕ) × Order g k × Grown f g b l k
  order_step = elim (true_or_false (happened (f b))) [
    | inl e ↦ (l, still (λ h. e), Grown.same)
    | inr e ↦ elim (true_or_false (happened (g b))) [
      | inl h ↦ (b ∷ l, more e h, Grown.newer e h)
      | inr h ↦ (l, still (λ t. absurd (not_both t h)), Grown.same)
    ]
  ]

-- ---- along the order
module _ (f : ℕ → Why) (l : List ℕ) (o : Order f l) (P : ℕ → Type 0) where
  -- what holds of a node as soon as it holds of the one through which it came to be so, holds of all
  module _ (step : (x : ℕ) → happened (f x) ≡ true → ((j : ℕ) → In j (sender_of (f x)) → P j) → P x) where
    up : (k : List ℕ) → Behind f k → ((i : ℕ) → Memᴰ i k → happened (f i) ≡ true) → (i : ℕ) → Memᴰ i k → P i
    up (x ∷ k) b on i (here e) = subst P (sym e) (step x (on x (here refl)) (λ j m. up k b.1 (λ z n. on z (there n)) j (b.0 j m)))
    up (x ∷ k) b on i (there n) = up k b.1 (λ z m. on z (there m)) i n
    up [] b on i x3 = elim x3 [ ]

    pub oldest_first : (x : ℕ) → happened (f x) ≡ true → P x
    oldest_first x h = up l o.behind o.only x (o.listed x h)

  -- what holds of a node as soon as it holds of all that came to be so through it, holds of all
  module _ (step : (x : ℕ) → happened (f x) ≡ true → ((k : ℕ) → In x (sender_of (f k)) → P k) → P x) where
    head : (x : ℕ) (k : List ℕ) → Once (x ∷ k) → Behind f (x ∷ k) → happened (f x) ≡ true
        → ((i : ℕ) → happened (f i) ≡ true → Memᴰ i (x ∷ k) ⊎ P i) → P x
    head x k c b h rest = step x h (λ i m. ⊎_elim (λ (n : Memᴰ i (x ∷ k)). absurd (c.0 (later i m n))) (λ (p : P i). p) (rest i (sender_happened (f i) x m)))
      where
        later : (i : ℕ) → In x (sender_of (f i)) → Memᴰ i (x ∷ k) → Memᴰ x k
        later i m (here e) = b.0 x (subst (λ (y : ℕ). In x (sender_of (f y))) e m)
        later i m (there n) = behind_in f k b.1 i x n m

    down : (k : List ℕ) → Once k → Behind f k → ((i : ℕ) → Memᴰ i k → happened (f i) ≡ true)
        → ((i : ℕ) → happened (f i) ≡ true → Memᴰ i k ⊎ P i) → (i : ℕ) → happened (f i) ≡ true → P i
    down [] c b on rest i h = ⊎_elim (λ (n : Memᴰ i []). absurd (elim n [ ])) (λ (p : P i). p) (rest i h)
    down (x ∷ k) c b on rest i h = down k c.1 b.1 (λ z n. on z (there n)) (λ j g. ⊎_elim (passed j) (λ (p : P j). inr p) (rest j g)) i h
      where
        passed : (i : ℕ) → Memᴰ i (x ∷ k) → Memᴰ i k ⊎ P i
        passed i (here e) = inr (subst P (sym e) (head x k c b (on x (here refl)) rest))
        passed i (there n) = inl n

    pub newest_first : (x : ℕ) → happened (f x) ≡ true → P x
    newest_first = down l o.once o.behind o.only (λ i h. inl (o.listed i h))
