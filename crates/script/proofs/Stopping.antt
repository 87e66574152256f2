-- A reader that looks for where a text stops: what is left stops where the whole does. Assumes nothing.
use mathlib.Core.Path.{◌≡◌, refl, sym, ap, ◌∙◌}
use mathlib.Core.Bool.{Bool, true, false, cond}
use mathlib.Core.List.{List, [], ◌∷◌}
use Prim.Native.Nat.{ℕ, ◌+◌, ◌≤◌, ◌<◌}
use native.Mathlib.Numerals.{add-one}
use native.Mathlib.Omega.{arith}
use lib.Dec.{eqb}
use lib.ListN.{length, get_or, drop, drop_of_length-le}
use lib.Seq.{drop-cons}
use Rattle.lemmas.proofs.Cases.{both_branches}
use Rattle.std.specs.Option.{MatchOption}
use Rattle.std.proofs.lemmas.Bool.Decides.{nat_tests}
use Rattle.std.specs.Prelude.{Option, Some, None, Result, Ok, Err}
use Rattle.text.specs.Digits.{is_digit, grown}
use Rattle.script.specs.declared.stops.Stop.{Stop}
use Rattle.script.specs.declared.stops.Stop.TheVariants.{Odd, Large}
use Rattle.script.specs.Numbers.{blank, so_far, going, place_after, ended, after, numbers_from, numbers_of}
use Rattle.script.specs.Stops.{line_after, stop_at, stop_or, stop_from, stop_of}

-- ---- one byte further: a byte that isn't blank ends no line
same_line : (line b : ℕ) → blank b ≡ false → line_after line b ≡ line
unfolding line_after blank
same_line line b e = grind (arith, nat_tests)

after_few : (line b : ℕ) → line_after line b ≤ line + 1
unfolding line_after
after_few line b = both_branches (λ (k : ℕ). k ≤ line + 1) (eqb b 10) (omega arith) (omega arith)

abbrev onward : (line b : ℕ) → List ℕ → Option (Option ℕ) → Result Unit Stop
onward line b l None = Err (stop_at line b)
onward line b l (Some q) = stop_from (line_after line b) q l

onward_is : (line : ℕ) (p : Option ℕ) (b : ℕ) (l : List ℕ) → stop_from line p (b ∷ l) ≡ onward line b l (place_after p b)
unfolding stop_from place_after
onward_is line p b l = by (blank b) refl (grown (so_far p) b)
  where
    by : (t : Bool) → blank b ≡ t → (n : Option ℕ)
        → cond t (stop_from (line_after line b) None l) (stop_or (stop_at line b) n (λ v. stop_from line (Some v) l))
        ≡ onward line b l (cond t (Some None) (going n))
    by true e n = refl
    by false e None = refl
    by false e (Some v) = ap (λ (k : ℕ). stop_from k (Some v) l) (sym (same_line line b e))

-- ---- a walk that has come to byte i, on this line
pub record Walking (l : List ℕ) (line : ℕ) (p : Option ℕ) (i : ℕ) : Type 0 where
  pub rest : stop_from line p (drop i l) ≡ stop_of l
  pub few : line ≤ i + 1

pub walk_start : (l : List ℕ) → Walking l 1 None 0
unfolding stop_of
walk_start l = record { rest = refl; few = omega arith }

module _ (l : List ℕ) (line : ℕ) (p : Option ℕ) (i : ℕ) (w : Walking l line p i) where
  next : i < length l → {n : Option (Option ℕ)} → n ≡ place_after p (get_or l i 0) → onward line (get_or l i 0) (drop (i + 1) l) n ≡ stop_of l
  next h e =
      ap (onward line (get_or l i 0) (drop (i + 1) l)) e
      ∙ sym (onward_is line p (get_or l i 0) (drop (i + 1) l))
      ∙ ap (stop_from line p) (sym (drop-cons l i 0 h ∙ ap (λ (k : ℕ). get_or l i 0 ∷ drop k l) (sym (add-one i))))
      ∙ w.rest

  walk_on : i < length l → {q : Option ℕ} → Some q ≡ place_after p (get_or l i 0)
      → {line' : ℕ} → line' ≡ line_after line (get_or l i 0) → Walking l line' q (i + 1)
  walk_on h s e = rw e (record { rest = next h s; few = omega (arith, w.few, after_few line (get_or l i 0)) })

  -- as std says that there was a place
  pub walk_kept : i < length l → (n : Option (Option ℕ)) {q : Option ℕ} → n ≡ place_after p (get_or l i 0)
      → MatchOption n ⊥ (λ x. ◌≡◌ {A = Result (Option ℕ) Stop} (Ok q) (Ok x))
      → {line' : ℕ} → line' ≡ line_after line (get_or l i 0) → Walking l line' q (i + 1)
  walk_kept h None s k e = absurd k
  walk_kept h (Some x) s k e = walk_on h (ap Some (cc) ∙ s) e

  pub walk_strange : i < length l → None ≡ place_after p (get_or l i 0) → {s : Stop} → s ≡ stop_at line (get_or l i 0) → Err s ≡ stop_of l
  walk_strange h e q = ap Err q ∙ next h e

  pub walk_end : length l ≤ i → Ok tt ≡ stop_of l
  unfolding stop_from
  walk_end h = sym (ap (stop_from line p) (drop_of_length-le l h)) ∙ w.rest

-- ---- Theorem: a text stops at its end exactly if nothing strange comes in it.
abbrev pub at_end : Result Unit Stop → Bool
at_end (Ok u) = true
at_end (Err s) = false

good_from : (line : ℕ) (p : Option ℕ) (l : List ℕ) → (numbers_from p l).good ≡ at_end (stop_from line p l)
unfolding numbers_from stop_from
good_from line p [] = refl
good_from line p (b ∷ l) = by (λ k q. good_from k q l) (blank b) (grown (so_far p) b)
  where
    by : ((k : ℕ) (q : Option ℕ) → (numbers_from q l).good ≡ at_end (stop_from k q l)) → (t : Bool) (n : Option ℕ)
        → (cond t (ended p (numbers_from None l)) (after n (λ v. numbers_from (Some v) l))).good
        ≡ at_end (cond t (stop_from (line_after line b) None l) (stop_or (stop_at line b) n (λ v. stop_from line (Some v) l)))
    by f true n = f (line_after line b) None
    by f false None = refl
    by f false (Some v) = f line (Some v)

pub good_ends : (bytes : List ℕ) → (numbers_of bytes).good ≡ at_end (stop_of bytes)
unfolding stop_of numbers_of
good_ends bytes = good_from 1 None bytes

-- ---- and a line where it stops is one of as many as it has bytes
abbrev pub LineBelow : ℕ → Result Unit Stop → Type 0
LineBelow m (Ok u) = Unit {0}
LineBelow m (Err (Odd line)) = line < m
LineBelow m (Err (Large line)) = line < m

at_below : (m line b : ℕ) → line < m → LineBelow m (Err (stop_at line b))
unfolding stop_at
at_below m line b h = both_branches (λ (s : Stop). LineBelow m (Err s)) (is_digit b) {x = Large line} {y = Odd line} h h

stop_below : (m line : ℕ) (p : Option ℕ) (l : List ℕ) → line + length l ≤ m → LineBelow m (stop_from line p l)
unfolding stop_from
stop_below m line p [] h = tt
stop_below m line p (b ∷ l) h = by (λ k q. stop_below m k q l) (blank b) (grown (so_far p) b)
  where
    by : ((k : ℕ) (q : Option ℕ) → k + length l ≤ m → LineBelow m (stop_from k q l)) → (t : Bool) (n : Option ℕ)
        → LineBelow m (cond t (stop_from (line_after line b) None l) (stop_or (stop_at line b) n (λ v. stop_from line (Some v) l)))
    by f true n = f (line_after line b) None (let a = after_few line b in omega arith)
    by f false None = at_below m line b (omega arith)
    by f false (Some v) = f line (Some v) (omega arith)

pub stop_line : (bytes : List ℕ) → LineBelow (length bytes + 1) (stop_of bytes)
unfolding stop_of
stop_line bytes = stop_below (length bytes + 1) 1 None bytes (omega arith)
