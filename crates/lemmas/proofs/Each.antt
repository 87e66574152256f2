-- The lists of the members of a list, put together: what is in it, how long it is, when it has nothing twice. Assumes nothing.
use mathlib.Core.Path.{◌≡◌, refl, ap, ◌∙◌}
use mathlib.Core.Logic.{⊎_elim}
use mathlib.Core.List.{List, [], ◌∷◌, flat_map, Memᴰ}
use mathlib.Core.List.Memᴰ.{head as here}
use mathlib.Core.List.Memᴰ.{tail as there}
use Prim.Native.Nat.{ℕ, ◌+◌}
use lib.ListN.{length, length-append}
use Rattle.lemmas.specs.Lists.{total, Once}
use Rattle.lemmas.proofs.Once.{once_append}

module _ {A B : Type 0} (f : A → List B) where
  -- what is in it is in the list of some member
  pub each_from : (l : List A) (y : B) → Memᴰ y (flat_map f l) → (x : A) × Memᴰ x l × Memᴰ y (f x)
  unfolding flat_map
  each_from [] y m = absurd (elim m [ ])
  each_from (a ∷ l) y m =
      let ih = each_from l y in
      ⊎_elim
      (λ (n : Memᴰ y (f a)). (a, here refl, n))
      (λ (n : Memᴰ y (flat_map f l)). let r = ih n in (r.0, there r.1, r.2))
      (mathlib.Core.List.Memᴰ.append_cases (f a) m)

  pub each_in : (l : List A) (x : A) (y : B) → Memᴰ x l → Memᴰ y (f x) → Memᴰ y (flat_map f l)
  unfolding flat_map
  each_in (a ∷ l) x y (here e) n = mathlib.Core.List.Memᴰ.append_left (flat_map f l) (rw e at n)
  each_in (a ∷ l) x y (there m) n = mathlib.Core.List.Memᴰ.append_right (f a) (each_in l x y m n)
  each_in [] x y x4 n = elim x4 [ ]

  pub each_length : (l : List A) → length (flat_map f l) ≡ total (λ x. length (f x)) l
  unfolding flat_map
  each_length [] = refl
  each_length (a ∷ l) = length-append (f a) (flat_map f l) ∙ ap (λ (n : ℕ). length (f a) + n) (each_length l)

  -- where the lists of different members have nothing in common
  pub once_each : ((x : A) → Once (f x)) → ((x y : A) (z : B) → Memᴰ z (f x) → Memᴰ z (f y) → x ≡ y) → (l : List A) → Once l → Once (flat_map f l)
  unfolding flat_map
  once_each single one [] o = tt
  once_each single one (a ∷ l) o =
      once_append (f a) (flat_map f l) (single a) (once_each single one l o.1)
      (λ z m n. let r = each_from l z n in o.0 (mathlib.Core.List.Memᴰ.cast (one a r.0 z m r.2) r.1))
