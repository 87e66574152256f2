-- Those of a list that meet a test: what is in them, how they are put together, and how many there are. Assumes nothing.
use mathlib.Core.Path.{◌≡◌, refl, sym, ap, ◌∙◌}
use mathlib.Core.Bool.{Bool, true, false, cond}
use mathlib.Core.List.{List, [], ◌∷◌, ◌++◌, map, Memᴰ}
use mathlib.Core.List.Memᴰ.{head as here}
use mathlib.Core.List.Memᴰ.{tail as there}
use Prim.Native.Nat.{ℕ, suc, ◌+◌, ◌*◌, ◌≤◌}
use native.Mathlib.Nat.{mul-suc}
use native.Mathlib.Omega.{arith}
use lib.Dec.{eqb}
use lib.ListN.{length}
use borrow.Author.Tests.{eq-eqb}
use Rattle.lemmas.specs.Lists.{those, total}

module _ {A : Type 0} (p : A → Bool) where
  -- ---- the head of a list meets it, or not
  those_yes : (a : A) (l : List A) → p a ≡ true → those p (a ∷ l) ≡ a ∷ those p l
  those_yes a l e = ap (λ (b : Bool). cond b (a ∷ those p l) (those p l)) e

  those_no : (a : A) (l : List A) → p a ≡ false → those p (a ∷ l) ≡ those p l
  those_no a l e = ap (λ (b : Bool). cond b (a ∷ those p l) (those p l)) e

  pub those_append : (l m : List A) → those p (l ++ m) ≡ those p l ++ those p m
  those_append [] m = refl
  those_append (a ∷ l) m = each (p a) (those p (l ++ m)) (those p l) (those_append l m)
    where
      each : (b : Bool) (x y : List A) → x ≡ y ++ those p m → cond b (a ∷ x) x ≡ cond b (a ∷ y) y ++ those p m
      each true x y e = ap (λ (z : List A). a ∷ z) e
      each false x y e = e

  pub those_all : (l : List A) → ((a : A) → Memᴰ a l → p a ≡ true) → those p l ≡ l
  those_all [] h = refl
  those_all (a ∷ l) h = those_yes a l (h a (here refl)) ∙ ap (λ (z : List A). a ∷ z) (those_all l (λ b m. h b (there m)))

  pub those_none : (l : List A) → ((a : A) → Memᴰ a l → p a ≡ false) → those p l ≡ []
  those_none [] h = refl
  those_none (a ∷ l) h = those_no a l (h a (here refl)) ∙ those_none l (λ b m. h b (there m))

  -- ---- what is in them
  pub those_from : (l : List A) (x : A) → Memᴰ x (those p l) → Memᴰ x l × (p x ≡ true)
  those_from [] x m = absurd (elim m [ ])
  those_from (a ∷ l) x m = back (p a) refl m (those_from l x)
    where
      back : (b : Bool) → p a ≡ b → Memᴰ x (cond b (a ∷ those p l) (those p l))
          → (Memᴰ x (those p l) → Memᴰ x l × (p x ≡ true)) → Memᴰ x (a ∷ l) × (p x ≡ true)
      back true e (here q) ih = (here q, ap p q ∙ e)
      back true e (there n) ih = let r = ih n in (there r.0, r.1)
      back false e n ih = let r = ih n in (there r.0, r.1)

  pub those_in : (l : List A) (x : A) → Memᴰ x l → p x ≡ true → Memᴰ x (those p l)
  those_in (a ∷ l) x (here q) e = rw (those_yes a l (ap p (sym q) ∙ e)) (here q)
  those_in (a ∷ l) x (there m) e = kept (p a) (those_in l x m e)
    where
      kept : (b : Bool) → Memᴰ x (those p l) → Memᴰ x (cond b (a ∷ those p l) (those p l))
      kept true n = there n
      kept false n = n
  those_in [] x x4 e = elim x4 [ ]

-- ---- how many there are
-- of a list that is mapped there are as many as of the list, where the tests say the same
module _ {A B : Type 0} (p : B → Bool) (q : A → Bool) (f : A → B) where
  pub as_many : (l : List A) → ((x : A) → Memᴰ x l → p (f x) ≡ q x) → length (those p (map f l)) ≡ length (those q l)
  as_many [] h = refl
  as_many (a ∷ l) h =
      ap (λ (t : Bool). length (cond t (f a ∷ those p (map f l)) (those p (map f l)))) (h a (here refl))
      ∙ go (q a) (as_many l (λ x i. h x (there i)))
    where
      go : (t : Bool) → length (those p (map f l)) ≡ length (those q l)
          → length (cond t (f a ∷ those p (map f l)) (those p (map f l))) ≡ length (cond t (a ∷ those q l) (those q l))
      go true e = ap suc e
      go false e = e

total_most : (g : ℕ → ℕ) (k : ℕ) → ((r : ℕ) → g r ≤ k) → (l : List ℕ) → total g l ≤ k * length l
total_most g k h [] = omega arith
total_most g k h (r ∷ l) =
    let more : k * suc (length l) ≡ k * length l + k = mul-suc k (length l) in
    omega (arith, h r, total_most g k h l)

total_more : (g h : ℕ → ℕ) → ((r : ℕ) → h r ≤ g r) → (l : List ℕ) → total h l ≤ total g l
total_more g h f [] = omega arith
total_more g h f (r ∷ l) = omega (arith, f r, total_more g h f l)

one_more : (g h : ℕ → ℕ) → ((r : ℕ) → h r ≤ g r) → (x : ℕ) → suc (h x) ≤ g x → (l : List ℕ) → Memᴰ x l → suc (total h l) ≤ total g l
one_more g h f x e (r ∷ l) (here q) = let e' : suc (h r) ≤ g r = rw q at e in omega (arith, total_more g h f l)
one_more g h f x e (r ∷ l) (there m) = omega (arith, f r, one_more g h f x e l m)
one_more g h f x e [] x'' = elim x'' [ ]

module _ {A : Type 0} (f : A → ℕ) where
  -- those with the number r
  abbrev count : List A → ℕ → ℕ
  count l r = length (those (λ a. eqb (f a) r) l)

  at_least : (a : A) (l : List A) (r : ℕ) → count l r ≤ count (a ∷ l) r
  at_least a l r = some (eqb (f a) r)
    where
      some : (b : Bool) → count l r ≤ length (cond b (a ∷ those (λ x. eqb (f x) r) l) (those (λ x. eqb (f x) r) l))
      some true = omega arith
      some false = omega arith

  numbered : (l : List A) (rs : List ℕ) → ((a : A) → Memᴰ a l → Memᴰ (f a) rs) → length l ≤ total (count l) rs
  numbered [] rs h = omega arith
  numbered (a ∷ l) rs h =
      let one : suc (count l (f a)) ≤ count (a ∷ l) (f a) = let e = ap length (those_yes (λ x. eqb (f x) (f a)) a l (eq-eqb (f a) (f a) refl)) in omega arith in
      omega (arith, numbered l rs (λ b m. h b (there m)), one_more (count (a ∷ l)) (count l) (at_least a l) (f a) one rs (h a (here refl)))

  -- If each has one of some numbers, and at most k have the same, there are at most k for each of these.
  pub numbered_most : (l : List A) (rs : List ℕ) (k : ℕ) → ((a : A) → Memᴰ a l → Memᴰ (f a) rs) → ((r : ℕ) → count l r ≤ k) → length l ≤ k * length rs
  numbered_most l rs k h most = omega (arith, numbered l rs h, total_most (count l) k most rs)
