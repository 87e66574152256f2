-- A run of numbers stored in a list, one after the other. Assumes nothing.
use mathlib.Core.Path.{◌≡◌, refl, sym, ap, ◌∙◌}
use mathlib.Core.List.{List, [], ◌∷◌, ◌++◌}
use Prim.Native.Nat.{ℕ, zero, suc, ◌+◌, ◌≤◌, ◌<◌}
use native.Mathlib.Nat.{add-zero, add-suc, suc-add}
use native.Mathlib.Omega.{arith}
use lib.ListN.{length, get_or, take, drop, set, length-set}
use lib.Seq.{sets, sets-eq, take_at, set_out, set-get_or, get_or-set_same, get_or-set_other}

-- ---- one run after another
pub sets_append : (xs ys l : List ℕ) (i : ℕ) → sets (sets l i xs) (i + length xs) ys ≡ sets l i (xs ++ ys)
sets_append [] ys l i = ap (λ (j : ℕ). sets l j ys) (add-zero i)
sets_append (x ∷ xs) ys l i = ap (λ (j : ℕ). sets (sets (set l i x) (suc i) xs) j ys) (add-suc i (length xs) ∙ sym (suc-add i (length xs))) ∙ sets_append xs ys (set l i x) (suc i)

-- ---- a run of numbers: before it, after it, and in it
pub sets_before : (vs l : List ℕ) (i j : ℕ) → j < i → get_or (sets l i vs) j 0 ≡ get_or l j 0
sets_before [] l i j h = refl
sets_before (a ∷ vs) l i j h = sets_before vs (set l i a) (suc i) j (omega arith) ∙ get_or-set_other l i j a 0 (omega arith)

pub sets_after : (vs l : List ℕ) (i j : ℕ) → i + length vs ≤ j → get_or (sets l i vs) j 0 ≡ get_or l j 0
sets_after [] l i j h = refl
sets_after (a ∷ vs) l i j h = sets_after vs (set l i a) (suc i) j (omega arith) ∙ get_or-set_other l i j a 0 (omega arith)

pub sets_at : (vs l : List ℕ) (i j : ℕ) → j < length vs → i + length vs ≤ length l → get_or (sets l i vs) (i + j) 0 ≡ get_or vs j 0
sets_at [] l i j h k = absurd (omega arith)
sets_at (a ∷ vs) l i zero h k = rw add-zero (sets_before vs (set l i a) (suc i) i (omega arith) ∙ get_or-set_same l i a 0 (omega arith))
sets_at (a ∷ vs) l i (suc j) h k = rw (add-suc, ← suc-add) (sets_at vs (set l i a) (suc i) j (omega arith) (rw length-set (omega arith)))

-- past the last place nothing is stored
pub sets_out : (vs l : List ℕ) (i : ℕ) → length l ≤ i → sets l i vs ≡ l
sets_out [] l i h = refl
sets_out (a ∷ vs) l i h = ap (λ (x : List ℕ). sets x (suc i) vs) (set_out l i a h) ∙ sets_out vs l (suc i) (omega arith)

-- numbers that stand there already
pub sets_same : (vs l : List ℕ) (i : ℕ) → ((j : ℕ) → j < length vs → get_or vs j 0 ≡ get_or l (i + j) 0) → sets l i vs ≡ l
sets_same [] l i h = refl
sets_same (a ∷ vs) l i h =
    let first : set l i a ≡ l = ap (set l i) (h 0 (omega arith) ∙ ap (λ (k : ℕ). get_or l k 0) (add-zero i)) ∙ set-get_or l i 0 in
    ap (λ (x : List ℕ). sets x (suc i) vs) first
    ∙ sets_same vs l (suc i) (λ j k. h (suc j) (omega arith) ∙ ap (λ (x : ℕ). get_or l x 0) (add-suc i j ∙ sym (suc-add i j)))

-- ---- numbers that are stored from the first place on, with a place for each, stand in front
pub in_front_lem : (lent numbers : List ℕ) → length numbers ≤ length lent → sets lent 0 numbers ≡ numbers ++ drop (length numbers) lent
in_front_lem lent numbers h =
    sets-eq numbers lent 0 (omega arith)
    ∙ ap (λ (k : ℕ). numbers ++ drop k lent) (let q : 0 + length numbers ≡ length numbers = omega arith in q)

pub front_taken : (lent numbers : List ℕ) {count : ℕ} → count ≡ length numbers → length numbers ≤ length lent → take count (sets lent 0 numbers) ≡ numbers
front_taken lent numbers {count} e h = ap (take count) (in_front_lem lent numbers h) ∙ take_at numbers (drop (length numbers) lent) count (sym e)
