-- The smallest member of a set: where it is, and what is left without it. Assumes nothing.
use mathlib.Core.Path.{◌≡◌, refl, sym, ap, ap₂, ◌∙◌}
use mathlib.Core.List.{List, [], ◌∷◌, ◌++◌}
use mathlib.Core.List.Memᴰ.{head as here}
use mathlib.Core.List.Memᴰ.{tail as there}
use Prim.Native.Nat.{ℕ, zero, suc, ◌+◌, ◌/◌, ◌%◌, ◌^◌, ◌<◌}
use native.Mathlib.Nat.{suc_inj, suc-ne-zero, zero-add, add-zero, suc-add, add-suc}
use native.Mathlib.Omega.{arith}
use native.Mathlib.Numerals.{add-one}
use lib.Dec.{eqb}
use lib.ListN.{length}
use lib.Arith.{lt-one}
use lib.Pow.{shr_lt}
use lib.Count.{count_trailing_zeros, under}
use Rattle.std.specs.Prelude.{Option, Some, None}
use Rattle.lemmas.proofs.Ascending.{ascending_unique}
use Rattle.lemmas.proofs.Once.{not_first}
use Rattle.nodes.specs.declared.Node.{Node}
use Rattle.nodes.specs.Sets.{In, Inside, single, with, minus, only, members, size}
use Rattle.nodes.specs.Words.{first_of}
use Rattle.nodes.proofs.Bit.{in_lt}
use Rattle.nodes.proofs.Operations.{with_empty, in_minus, bit_single_same, bit_single_other}
use Rattle.nodes.proofs.Inside.{inside_in}
use Rattle.nodes.proofs.Members.{from, from_step, from_none, members_from_lem, members_in, members_ascending}
use Rattle.nodes.proofs.Size.{size_members}

abbrev found : ℕ → Option Node
found k = Some (record { 0 = k })

-- ---- past the zeros at a word's low end, which the machine counts
first_from : (w j s : ℕ) → s < 2 ^ w → (s ≡ 0 → ⊥) → first_of (from j s) ≡ found (j + count_trailing_zeros w s)
unfolding count_trailing_zeros
first_from zero j s h some = absurd (some (lt-one h))
first_from (suc w) j s h some =
    ap first_of (from_step j s) ∙ go (s % 2) (omega arith) (λ e. first_from w (suc j) (s / 2) (shr_lt w 1 (rw add-one h)) (λ z. some (omega arith)))
  where
    go : (d : ℕ) → d < 2 → (d ≡ 0 → first_of (from (suc j) (s / 2)) ≡ found (suc j + count_trailing_zeros w (s / 2)))
        → first_of (only (eqb d 1) j ++ from (suc j) (s / 2)) ≡ found (j + under d (count_trailing_zeros w (s / 2)))
    go zero h rest = rest refl ∙ ap found (suc-add j _ ∙ sym (add-suc j _))
    go (suc zero) h rest = ap found (sym (add-zero j))
    go (suc (suc d)) h rest = absurd (omega arith)

pub first_trailing : (w s : ℕ) → s < 2 ^ w → (s ≡ 0 → ⊥) → found (count_trailing_zeros w s) ≡ first_of (members s)
first_trailing w s h some = sym (ap first_of (members_from_lem s) ∙ first_from w 0 s h some ∙ ap found (zero-add _))

pub first_none : (s : ℕ) → s ≡ 0 → None ≡ first_of (members s)
first_none s e = sym (ap first_of (ap members e ∙ members_from_lem 0 ∙ from_none 0))

-- ---- what is left without it
abbrev number : Option Node → ℕ
number (Some k) = suc k.0
number None = zero

first_of_lem : (s : ℕ) (k : Node) (l : List ℕ) → members s ≡ l → first_of l ≡ Some k → members s ≡ k.0 ∷ members (minus s (single k.0))
first_of_lem s k [] e f = absurd (suc-ne-zero _ (sym (ap number f)))
first_of_lem s k (x ∷ l) e f =
    let same : x ≡ k.0 = suc_inj (ap number f) in
    let up = rw e at (members_ascending s) in
    let rest : l ≡ members (minus s (single x)) =
    ascending_unique l (members (minus s (single x))) up.1 (members_ascending (minus s (single x))) (λ z. (
      λ m. (members_in (minus s (single x)) z).1 ((in_minus s (single x) z).1 (
        (members_in s z).0 (rw e (there m)),
        λ i. let h = up.0 z m in let out = bit_single_other x z (λ q. omega arith) in omega arith,
      )),
      λ m.
          let i = (in_minus s (single x) z).0 ((members_in (minus s (single x)) z).0 m) in
          not_first z (λ q. i.1 (rw q (bit_single_same x))) (rw e at ((members_in s z).1 i.0)),
    )) in
    e ∙ ap₂ (λ (y : ℕ) (r : List ℕ). y ∷ r) same (rest ∙ ap (λ (y : ℕ). members (minus s (single y))) same)

pub members_first : (s : ℕ) (k : Node) → Some k ≡ first_of (members s) → members s ≡ k.0 ∷ members (minus s (single k.0))
members_first s k e = first_of_lem s k (members s) refl (sym e)

none_of : (l : List ℕ) → None ≡ first_of l → l ≡ []
none_of [] e = refl
none_of (x ∷ l) e = absurd (suc-ne-zero _ (sym (ap number e)))

pub members_ended : (s : ℕ) → None ≡ first_of (members s) → members s ≡ []
members_ended s e = none_of (members s) e

-- ---- as a loop takes the smallest member out again and again: the set of it alone is made of the empty one
module _ (s : ℕ) (k : Node) (first : Some k ≡ first_of (members s)) where
  pub first_place : (w : ℕ) → s < 2 ^ w → k.0 < w
  first_place w h = in_lt w s k.0 h ((members_in s k.0).0 (rw (members_first s k first) (here refl)))

  module _ {t x e : ℕ} (p : t ≡ minus s x) (q : x ≡ with e k.0) (z : e ≡ 0) where
    pub first_rest : members s ≡ k.0 ∷ members t
    first_rest =
        let same : t ≡ minus s (single k.0) = p ∙ ap (minus s) (q ∙ ap (λ (y : ℕ). with y k.0) z ∙ with_empty k.0) in
        members_first s k first ∙ ap (λ (y : ℕ). k.0 ∷ members y) (sym same)

    pub first_less : size t < size s
    first_less = omega (arith, size_members s, ap length first_rest, size_members t)

-- ---- as a walk gives it: the first of the members, and then those of another set
module _ (s t k : ℕ) (e : members s ≡ k ∷ members t) where
  pub walk_in : In k s
  walk_in = (members_in s k).0 (rw e (here refl))

  pub walk_inside : Inside t s
  walk_inside = inside_in t s (λ j i. (members_in s j).0 (rw e (there ((members_in t j).1 i))))

  pub walk_size : size s ≡ suc (size t)
  walk_size = size_members s ∙ ap length e ∙ ap suc (sym (size_members t))
