-- A field by the grammar, whose value is TEXTDATA, means that value, and each field means one so. Assumes nothing.
use mathlib.Core.Path.{◌≡◌, refl, sym, ap, ap₂, ◌∙◌}
use mathlib.Core.Bool.{true, false, not, ◌&&◌, ◌||◌, false≢true}
use mathlib.Core.Logic.{⊎_elim, inl, inr}
use mathlib.Core.List.{List, [], ◌∷◌, ◌++◌}
use Prim.Native.Nat.{ℕ, suc, ◌-◌}
use native.Mathlib.Omega.{arith}
use lib.Dec.{leb, eqb}
use lib.ListN.{length, get_or, take, drop, length-append}
use lib.Seq.{take-append_seam, get_or-append_seam, take-suc, take-length}
use borrow.Author.Tests.{le-leb, eq-eqb, eqb-true, not-false}
use Rattle.lemmas.specs.Lists.{any_of}
use Rattle.lemmas.proofs.Cases.{at_true, at_false}
use Rattle.lemmas.proofs.Tests.{true_or_false, and_intro, and_left, and_right, or_left_false, or_right_false, or_intro_left}
use Rattle.lemmas.proofs.Any.{any_append, any_weaker}
use Rattle.format.specs.Cut.{quote}
use Rattle.format.specs.Fields.{quoted, bare}
use Rattle.format.specs.Grammar.{text_data, quotable, AllOf, doubled, FieldSays}
use Rattle.format.proofs.Joining.{other}
use Rattle.format.proofs.Numbers.{none_meets}
use Rattle.format.proofs.Taking.{bare_same}
use Rattle.format.proofs.Clean.{no_text}

-- ---- TEXTDATA has no quote, so none is doubled, and all of it may be quoted
text_quote : (v : List ℕ) → AllOf text_data v → any_of (eqb quote) v ≡ false
unfolding text_data
text_quote v t = none_meets no_text quote v refl t

doubled_same : (v : List ℕ) → any_of (eqb quote) v ≡ false → doubled v ≡ v
unfolding doubled
doubled_same [] e = refl
doubled_same (b ∷ l) e =
    sym (at_false (quote ∷ quote ∷ doubled l) (other quote b (or_left_false (eqb quote b) (any_of (eqb quote) l) e)) refl)
    ∙ ap (λ (r : List ℕ). b ∷ r) (doubled_same l (or_right_false (eqb quote b) (any_of (eqb quote) l) e))

text_quotable : (v : List ℕ) → AllOf text_data v → AllOf quotable v
unfolding quotable
text_quotable v t = any_weaker no_text (λ b. not (quotable b)) v (λ b e. ap not (or_intro_left (text_data b) _ (not-false (text_data b) e))) t

-- ---- between quotes
abbrev in_quotes : List ℕ → List ℕ
in_quotes v = quote ∷ v ++ quote ∷ []

bare_in : (v : List ℕ) → bare (in_quotes v) ≡ v
unfolding bare quoted
bare_in v =
    let w = in_quotes v in
    let long : length w ≡ suc (suc (length v)) = omega (arith, length-append v (quote ∷ [])) in
    let one : length w - 1 ≡ suc (length v) = omega (arith, long) in
    let two : length w - 2 ≡ length v = omega (arith, long) in
    let last : get_or w (length w - 1) 0 ≡ quote = ap (λ (n : ℕ). get_or w n 0) one ∙ get_or-append_seam v quote [] 0 in
    sym
    (at_true w (and_intro (leb 2 (length w)) _ (le-leb 2 (length w) (omega (arith, long))) (eq-eqb (get_or w (length w - 1) 0) quote last))
    (sym (ap (λ (n : ℕ). take n (v ++ quote ∷ [])) two ∙ take-append_seam v (quote ∷ []))))

quoted_in : (w : List ℕ) → quoted w ≡ true → w ≡ in_quotes (bare w)
unfolding bare quoted
quoted_in [] e = absurd (false≢true e)
quoted_in (x ∷ []) e = absurd (false≢true e)
quoted_in (x ∷ y ∷ l) e =
    let w = x ∷ y ∷ l in
    let ends = and_right (leb 2 (length w)) (eqb x quote && eqb (get_or w (length w - 1) 0) quote) e in
    let front : x ≡ quote = eqb-true x quote (and_left (eqb x quote) (eqb (get_or w (length w - 1) 0) quote) ends) in
    let last : get_or w (length w - 1) 0 ≡ quote = eqb-true (get_or w (length w - 1) 0) quote (and_right (eqb x quote) (eqb (get_or w (length w - 1) 0) quote) ends) in
    let at : get_or (y ∷ l) (length l) 0 ≡ quote = ap (λ (n : ℕ). get_or w n 0) (let q : suc (length l) ≡ length w - 1 = omega arith in q) ∙ last in
    let inner : bare w ≡ take (length l) (y ∷ l) = sym (at_true w e (ap (λ (n : ℕ). take n (y ∷ l)) (let q : length l ≡ length w - 2 = omega arith in q))) in
    ap₂ (λ (z : ℕ) (m : List ℕ). z ∷ m) front
    (sym (take-length (y ∷ l))
    ∙ take-suc (y ∷ l) (length l) 0 (omega arith)
    ∙ ap₂ (λ (m : List ℕ) (z : ℕ). m ++ z ∷ []) (sym inner) at)

-- Law: a field whose value is TEXTDATA means that value.
pub field_bare : (w v : List ℕ) → AllOf text_data v → FieldSays w v → bare w ≡ v
field_bare w v t (inl q) = ap bare q.0 ∙ bare_same v (text_quote v t)
field_bare w v t (inr q) = ap bare (q.0 ∙ ap in_quotes (doubled_same v (text_quote v t))) ∙ bare_in v

-- and has no byte but of TEXTDATA and quotes
pub field_free : (c : ℕ) (w v : List ℕ) → no_text c ≡ true → eqb c quote ≡ false → AllOf text_data v → FieldSays w v → any_of (eqb c) w ≡ false
field_free c w v e d t (inl q) = ap (any_of (eqb c)) q.0 ∙ none_meets no_text c v e t
field_free c w v e d t (inr q) =
    ap (any_of (eqb c)) (q.0 ∙ ap in_quotes (doubled_same v (text_quote v t)))
    ∙ ap₂ ◌||◌ d (any_append (eqb c) v (quote ∷ []) (none_meets no_text c v e t) (ap₂ ◌||◌ d refl))

-- Law: whatever means TEXTDATA is a field with that value.
pub bare_field : (w : List ℕ) → AllOf text_data (bare w) → FieldSays w (bare w)
unfolding bare
bare_field w t =
    ⊎_elim
    (λ (e : quoted w ≡ true). inr (quoted_in w e ∙ ap in_quotes (sym (doubled_same (bare w) (text_quote (bare w) t))), text_quotable (bare w) t))
    (λ (e : quoted w ≡ false). inl (at_false (take (length w - 2) (drop 1 w)) e refl, t))
    (true_or_false (quoted w))
