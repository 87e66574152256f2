-- Ascending lists: the test for them, one number more, nothing twice, and that their members determine them. Assumes nothing.
use mathlib.Core.Path.{◌≡◌, refl, sym, ap, ap₂, ◌∙◌}
use mathlib.Core.Bool.{Bool, true, false, ◌&&◌}
use mathlib.Core.Logic.{⊎_elim, ◌↔◌}
use mathlib.Core.List.Memᴰ
use mathlib.Core.List.{List, [], ◌∷◌, ◌++◌, Memᴰ}
use mathlib.Core.List.Memᴰ.{head as here}
use mathlib.Core.List.Memᴰ.{tail as there}
use Prim.Native.Nat.{ℕ, suc, ◌+◌, ◌-◌, ◌≤◌, ◌<◌}
use native.Mathlib.Omega.{arith}
use lib.Dec.{ltb}
use lib.ListN.{length, get_or, drop, length-drop}
use lib.Seq.{drop-cons}
use borrow.Author.Tests.{ltb-true, lt-ltb, le-ltb}
use Rattle.lemmas.specs.Lists.{Ascending, Once, ascending}
use Rattle.lemmas.proofs.Tests.{and_intro, and_left, and_right}
use Rattle.lemmas.proofs.Walks.{Left, left_next}
use Rattle.lemmas.proofs.Once.{not_first}

-- ---- the test
pub ascending_test : (l : List ℕ) → Ascending l → ascending l ≡ true
ascending_test [] a = refl
ascending_test (x ∷ []) a = refl
ascending_test (x ∷ y ∷ l) a = and_intro _ _ (lt-ltb x y (a.0 y (here refl))) (ascending_test (y ∷ l) a.1)

pub test_ascending : (l : List ℕ) → ascending l ≡ true → Ascending l
test_ascending [] e = tt
test_ascending (x ∷ []) e = (λ b m. absurd (elim m [ ]), tt)
test_ascending (x ∷ y ∷ l) e =
    let up = test_ascending (y ∷ l) (and_right (ltb x y) _ e) in
    let h = ltb-true x y (and_left (ltb x y) _ e) in
    (over h up, up)
  where
    over : x < y → Ascending (y ∷ l) → (b : ℕ) → Memᴰ b (y ∷ l) → x < b
    over h up b (here q) = omega arith
    over h up b (there m) = let k = up.0 b m in omega arith

-- ---- a walk that compares each number with the one before it: the answer is that of the numbers from the one before on
abbrev pub AscendingLeft : List ℕ → ℕ → Type 0
AscendingLeft l at = (1 ≤ at) × Left ascending l (at - 1)

module _ (l : List ℕ) (at : ℕ) (left : AscendingLeft l at) where
  compared : at < length l → ascending l ≡ (ltb (get_or l (at - 1) 0) (get_or l at 0) && ascending (drop at l))
  compared h =
      let here_on : drop at l ≡ get_or l at 0 ∷ drop (suc at) l = drop-cons l at 0 h in
      let same : suc (at - 1) ≡ at = omega (arith, left.0) in
      left_next ascending l (at - 1) left.1 (omega (arith, left.0))
      ∙ ap (λ (x : ℕ). ascending (get_or l (at - 1) 0 ∷ drop x l)) same
      ∙ ap (λ (m : List ℕ). ascending (get_or l (at - 1) 0 ∷ m)) here_on
      ∙ ap (λ (m : List ℕ). ltb (get_or l (at - 1) 0) (get_or l at 0) && ascending m) (sym here_on)

  pub ascending_passed : at < length l → get_or l (at - 1) 0 < get_or l at 0 → AscendingLeft l (at + 1)
  ascending_passed h k =
      let same : at + 1 - 1 ≡ at = omega arith in
      (omega arith, rw same (compared h ∙ ap (λ (b : Bool). b && ascending (drop at l)) (lt-ltb _ _ k)))

  pub ascending_broken : at < length l → get_or l at 0 ≤ get_or l (at - 1) 0 → false ≡ ascending l
  ascending_broken h k = sym (compared h ∙ ap (λ (b : Bool). b && ascending (drop at l)) (le-ltb _ _ k))

  pub ascending_ended : length l ≤ at → true ≡ ascending l
  ascending_ended h = sym (left.1 ∙ at_most_one (drop (at - 1) l) (let e = length-drop (at - 1) l in omega (arith, left.0)))
    where
      at_most_one : (m : List ℕ) → length m ≤ 1 → ascending m ≡ true
      at_most_one [] k = refl
      at_most_one (x ∷ []) k = refl
      at_most_one (x ∷ y ∷ m) k = absurd (omega arith)

-- ---- how they are put together, and what they are determined by
-- one number more at the end, above all the others
pub ascending_snoc : (l : List ℕ) (k : ℕ) → ((b : ℕ) → Memᴰ b l → b < k) → Ascending l → Ascending (l ++ k ∷ [])
ascending_snoc [] k h a = (λ b m. absurd (elim m [ ]), tt)
ascending_snoc (x ∷ l) k h a = (
  λ b m. ⊎_elim (λ (n : Memᴰ b l). a.0 b n) (λ (n : Memᴰ b (k ∷ [])). let e = Memᴰ.eq_of_singleton n in let q = h x (here refl) in omega arith) (Memᴰ.append_cases l m),
  ascending_snoc l k (λ b m. h b (there m)) a.1,
)

-- the end of an ascending list ascends
pub ascending_end : (l m : List ℕ) → Ascending (l ++ m) → Ascending m
ascending_end [] m a = a
ascending_end (x ∷ l) m a = ascending_end l m a.1

-- an ascending list is determined by its members
pub ascending_unique : (l m : List ℕ) → Ascending l → Ascending m → ((x : ℕ) → Memᴰ x l ↔ Memᴰ x m) → l ≡ m
ascending_unique [] [] a b f = refl
ascending_unique [] (y ∷ m) a b f = absurd (elim ((f y).1 (here refl)) [ ])
ascending_unique (x ∷ l) [] a b f = absurd (elim ((f x).0 (here refl)) [ ])
ascending_unique (x ∷ l) (y ∷ m) a b f =
    let q : x ≡ y = first ((f x).0 (here refl)) ((f y).1 (here refl)) in
    ap₂ (λ (z : ℕ) (r : List ℕ). z ∷ r) q (ascending_unique l m a.1 b.1 (λ z. (
      λ i. not_first z (λ e. let h = a.0 z i in omega arith) ((f z).0 (there i)),
      λ i. not_first z (λ e. let h = b.0 z i in omega arith) ((f z).1 (there i)),
    )))
  where
    first : Memᴰ x (y ∷ m) → Memᴰ y (x ∷ l) → x ≡ y
    first (here e) j = e
    first (there i) (here e) = sym e
    first (there i) (there j) = absurd (let h = b.0 x i in let k = a.0 y j in omega arith)

-- it has nothing twice
pub ascending_once : (l : List ℕ) → Ascending l → Once l
ascending_once [] a = tt
ascending_once (x ∷ l) a = (λ m. let h = a.0 x m in absurd (omega arith), ascending_once l a.1)
