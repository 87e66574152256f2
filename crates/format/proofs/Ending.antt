-- The first lines of a text, each with its end, are cut into the same lines. Assumes nothing.
use mathlib.Core.Path.{◌≡◌, refl, sym, ap, ◌∙◌, subst}
use mathlib.Core.Bool.{true, false}
use mathlib.Core.Logic.{⊎_elim}
use mathlib.Core.List.{List, [], ◌∷◌, ◌++◌}
use Prim.Native.Nat.{ℕ, zero, suc}
use lib.ListN.{take}
use Rattle.lemmas.proofs.Tests.{true_or_false}
use Rattle.format.specs.Cut.{cr, lf, line_end, onto, lines_of, ended}
use Rattle.format.proofs.Joining.{end_here, end_later, before_cr, lines_first}
use Rattle.format.proofs.Cutting.{first_line}

-- with its end, and whatever stands behind, a line is the first that is cut off
abbrev CutOff : List ℕ → Type 0
CutOff l = (rest : List ℕ) → lines_of (l ++ cr ∷ lf ∷ rest) ≡ l ∷ lines_of rest

abbrev AllCutOff : List (List ℕ) → Type 0
AllCutOff [] = Unit {0}
AllCutOff (l ∷ ls) = CutOff l × AllCutOff ls

blank_off : CutOff []
blank_off rest = lines_first [] rest refl

-- one byte is a line, even if it is a CR
byte_off : (x : ℕ) → CutOff (x ∷ [])
byte_off x rest = end_later x cr (lf ∷ rest) (before_cr x) ∙ ap (onto x) (blank_off rest)

onto_off : (x y : ℕ) (t : List ℕ) → line_end x y ≡ false → AllCutOff (lines_of (y ∷ t)) → AllCutOff (onto x (lines_of (y ∷ t)))
onto_off x y t h all =
    let q = first_line y t in
    let on : List (List ℕ) → Type 0 = λ ls. AllCutOff (onto x ls) in
    ⊎_elim
    (λ (e : lines_of (y ∷ t) ≡ [] ∷ q.1). subst on (sym e) (byte_off x, (subst AllCutOff e all).1))
    (λ (e : lines_of (y ∷ t) ≡ (y ∷ q.0) ∷ q.1).
    let off = subst AllCutOff e all in
    subst on (sym e) (λ rest. end_later x y (q.0 ++ cr ∷ lf ∷ rest) h ∙ ap (onto x) (off.0 rest), off.1))
    q.2

lines_off : (t : List ℕ) → AllCutOff (lines_of t)
unfolding lines_of
lines_off [] = tt
lines_off (x ∷ []) = (byte_off x, tt)
lines_off (x ∷ y ∷ t) =
    let here = lines_off t in
    let later = lines_off (y ∷ t) in
    ⊎_elim
    (λ (e : line_end x y ≡ true). subst AllCutOff (sym (end_here x y t e)) (blank_off, here))
    (λ (e : line_end x y ≡ false). subst AllCutOff (sym (end_later x y t e)) (onto_off x y t e later))
    (true_or_false (line_end x y))

some_cut : (n : ℕ) (ls : List (List ℕ)) → AllCutOff ls → lines_of (ended (take n ls)) ≡ take n ls
unfolding lines_of ended
some_cut zero ls off = refl
some_cut (suc n) [] off = refl
some_cut (suc n) (l ∷ ls) off = off.0 (ended (take n ls)) ∙ ap (λ (r : List (List ℕ)). l ∷ r) (some_cut n ls off.1)

-- Law: that many lines of a text, each with its end, are a text of these lines.
pub first_lines : (n : ℕ) (bytes : List ℕ) → lines_of (ended (take n (lines_of bytes))) ≡ take n (lines_of bytes)
first_lines n bytes = some_cut n (lines_of bytes) (lines_off bytes)
