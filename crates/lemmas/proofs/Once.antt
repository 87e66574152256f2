-- Lists that have nothing twice: how they are put together, and how long they are. Assumes nothing.
use mathlib.Core.Path.{◌≡◌, refl, sym, ap, ◌∙◌, subst}
use mathlib.Core.Logic.{⊎_elim, ◌↔◌}
use mathlib.Core.List.Memᴰ
use mathlib.Core.List.{List, [], ◌∷◌, ◌++◌, map, Memᴰ}
use mathlib.Core.List.Memᴰ.{head as here}
use mathlib.Core.List.Memᴰ.{tail as there}
use Prim.Native.Nat.{suc, ◌≤◌}
use native.Mathlib.Omega.{arith}
use lib.ListN.{length}
use Rattle.lemmas.specs.Lists.{Once}

module _ {A : Type 0} where
  -- two lists with nothing in common
  pub once_append : (xs ys : List A) → Once xs → Once ys → ((x : A) → Memᴰ x xs → Memᴰ x ys → ⊥) → Once (xs ++ ys)
  once_append [] ys a b d = b
  once_append (x ∷ xs) ys a b d = (
    λ m. ⊎_elim (λ (n : Memᴰ x xs). a.0 n) (λ (n : Memᴰ x ys). d x (here refl) n) (Memᴰ.append_cases xs m),
    once_append xs ys a.1 b (λ z m n. d z (there m) n),
  )

  -- a member of a list that is mapped comes from one of the list
  pub mapped_from : {B : Type 0} (f : A → B) (l : List A) (y : B) → Memᴰ y (map f l) → (x : A) × Memᴰ x l × (y ≡ f x)
  mapped_from f (a ∷ l) y (here e) = (a, here refl, e)
  mapped_from f (a ∷ l) y (there m) = let r = mapped_from f l y m in (r.0, there r.1, r.2)
  mapped_from {B = B} f [] y x' = elim x' [ ]

  pub mapped : {B : Type 0} (f : A → B) (l : List A) (x : A) → Memᴰ x l → Memᴰ (f x) (map f l)
  mapped f (a ∷ l) x (here e) = here (ap f e)
  mapped f (a ∷ l) x (there m) = there (mapped f l x m)
  mapped {B = B} f [] x x3 = elim x3 [ ]

  -- where different members go to different ones
  pub once_map : {B : Type 0} (f : A → B) (l : List A) → ((x y : A) → Memᴰ x l → Memᴰ y l → f x ≡ f y → x ≡ y) → Once l → Once (map f l)
  once_map f [] one a = tt
  once_map f (x ∷ l) one a = (
    λ m. let r = mapped_from f l (f x) m in a.0 (subst (λ (z : A). Memᴰ z l) (sym (one x r.0 (here refl) (there r.1) r.2)) r.1),
    once_map f l (λ y z m n. one y z (there m) (there n)) a.1,
  )

  -- a member that isn't the first is one of the others
  pub not_first : {x : A} {l : List A} (z : A) → (z ≡ x → ⊥) → Memᴰ z (x ∷ l) → Memᴰ z l
  not_first z n (here e) = absurd (n e)
  not_first z n (there m) = m

  -- a member taken out of a list: one shorter, and every other is still there
  without : (x : A) (l : List A) → Memᴰ x l → (r : List A) × (length l ≡ suc (length r)) × ((y : A) → (y ≡ x → ⊥) → Memᴰ y l → Memᴰ y r)
  without x (a ∷ l) (here e) = (l, refl, λ y n m. not_first y (λ f. n (f ∙ sym e)) m)
  without x (a ∷ l) (there i) =
      let r = without x l i in
      (a ∷ r.0, ap suc r.1, λ y n m. rest r.0 r.2 y n m)
    where
      rest : (k : List A) → ((y : A) → (y ≡ x → ⊥) → Memᴰ y l → Memᴰ y k) → (y : A) → (y ≡ x → ⊥) → Memᴰ y (a ∷ l) → Memᴰ y (a ∷ k)
      rest k g y n (here f) = here f
      rest k g y n (there m) = there (g y n m)
  without x [] x'' = elim x'' [ ]

  -- a list that has nothing twice is no longer than one that has all its members
  pub no_longer : (xs ys : List A) → Once xs → ((x : A) → Memᴰ x xs → Memᴰ x ys) → length xs ≤ length ys
  no_longer [] ys a f = omega arith
  no_longer (x ∷ xs) ys a f =
      let r = without x ys (f x (here refl)) in
      let h = no_longer xs r.0 a.1 (λ z m. r.2 z (λ e. a.0 (subst (λ (v : A). Memᴰ v xs) e m)) (f z (there m))) in
      let e = r.1 in
      omega arith

  -- two such lists with the same members are equally long
  pub same_length : (xs ys : List A) → Once xs → Once ys → ((x : A) → Memᴰ x xs ↔ Memᴰ x ys) → length xs ≡ length ys
  same_length xs ys a b f =
      let h = no_longer xs ys a (λ x. (f x).0) in
      let k = no_longer ys xs b (λ x. (f x).1) in
      omega arith
