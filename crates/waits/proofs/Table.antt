-- The table's order: the check gives a refusal exactly when its line says so and no earlier one does, and accepts exactly
-- if no line says so. Assumes nothing.
use mathlib.Core.Path.{◌≡◌, refl, sym, ap, ◌∙◌}
use mathlib.Core.Bool.{Bool, true, false, cond}
use mathlib.Core.Logic.{⊎_elim, ◌↔◌}
use mathlib.Core.List.Memᴰ
use mathlib.Core.List.{List, [], ◌∷◌, ◌++◌, Memᴰ}
use mathlib.Core.List.Memᴰ.{head as here}
use mathlib.Core.List.Memᴰ.{tail as there}
use Prim.Native.Nat.{ℕ, zero, suc, ◌+◌, ◌≤◌, ◌<◌}
use native.Mathlib.Nat.{eq-or-lt_of_le}
use native.Mathlib.Omega.{arith}
use lib.ListN.{length}
use Rattle.std.specs.Prelude.{Result, Ok, Err}
use Rattle.waits.specs.declared.rows.Row.{Row}
use Rattle.waits.specs.declared.refusals.Refusal.{Refusal}
use Rattle.waits.specs.Rows.{row_at, Shaped}
use Rattle.waits.specs.Numbers.{Line, line, wrong_count, strange_kind, strange_member, waits_on_itself, wrong_threshold, extra_set, bad_sets, many_edges, row_lines, rows_lines, graph_lines, first_said, check_of, Silent, Gives}
use Rattle.waits.proofs.Cases.{right_count}
use Rattle.waits.specs.declared.refusals.Reason.TheVariants.{WrongCount, StrangeKind, StrangeMember, WaitsOnItself, WrongThreshold, ExtraSet, BadSets, ManyEdges}

-- ---- one list of lines after another
abbrev pub or_else : Result Unit Refusal → Result Unit Refusal → Result Unit Refusal
or_else (Ok tt) b = b
or_else (Err r) b = Err r

pub said_append : (ls ms : List Line) → first_said (ls ++ ms) ≡ or_else (first_said ls) (first_said ms)
said_append [] ms = refl
said_append (l ∷ ls) ms = go l.says (said_append ls ms)
  where
    go : (b : Bool) → first_said (ls ++ ms) ≡ or_else (first_said ls) (first_said ms)
        → cond b (Err l.gives) (first_said (ls ++ ms)) ≡ or_else (cond b (Err l.gives) (first_said ls)) (first_said ms)
    go true ih = refl
    go false ih = ih

-- ---- accepted exactly if no line says so
pub refused_not_accepted : {r : Refusal} → ◌≡◌ {A = Result Unit Refusal} (Err r) (Ok tt) → ⊥
refused_not_accepted e = let z : ◌≡◌ {A = ℕ} 0 1 = cc e in omega arith

pub silent_accepted : (ls : List Line) → Silent ls → first_said ls ≡ Ok tt
silent_accepted [] h = refl
silent_accepted (l ∷ ls) h =
    ap (λ (b : Bool). cond b (Err l.gives) (first_said ls)) (h l (here refl))
    ∙ silent_accepted ls (λ m i. h m (there i))

silent_cons : (l : Line) (ls : List Line) → l.says ≡ false → Silent ls → Silent (l ∷ ls)
silent_cons l ls e h m (here p) = ap (λ (x : Line). x.says) p ∙ e
silent_cons l ls e h m (there i) = h m i

pub accepted_silent : (ls : List Line) → first_said ls ≡ Ok tt → Silent ls
accepted_silent [] e = λ m i. elim i [ ]
accepted_silent (l ∷ ls) e = go l.says refl e (accepted_silent ls)
  where
    go : (b : Bool) → l.says ≡ b → cond b (Err l.gives) (first_said ls) ≡ Ok tt → (first_said ls ≡ Ok tt → Silent ls) → Silent (l ∷ ls)
    go true q e ih = absurd (refused_not_accepted e)
    go false q e ih = silent_cons l ls q (ih e)

pub check_accepted : (n : ℕ) (rows : List ℕ) → (check_of n rows ≡ Ok tt) ↔ Silent (graph_lines n rows)
unfolding check_of
check_accepted n rows = (accepted_silent (graph_lines n rows), silent_accepted (graph_lines n rows))

-- ---- refused exactly with the first line that says so
said_gives : (ls : List Line) (r : Refusal) → first_said ls ≡ Err r → Gives ls r
said_gives [] r e = absurd (refused_not_accepted (sym e))
said_gives (l ∷ ls) r e = go l.says refl e (said_gives ls r)
  where
    go : (b : Bool) → l.says ≡ b → cond b (Err l.gives) (first_said ls) ≡ Err r → (first_said ls ≡ Err r → Gives ls r) → Gives (l ∷ ls) r
    go true q e ih = record { earlier = []; this = l; rest = ls; order = refl; refusal = cc e; speaks = q; silent = λ m i. elim i [ ] }
    go false q e ih =
        let g = ih e in
        record {
          earlier = l ∷ g.earlier;
          this = g.this;
          rest = g.rest;
          order = ap (λ (x : List Line). l ∷ x) g.order;
          refusal = g.refusal;
          speaks = g.speaks;
          silent = silent_cons l g.earlier q g.silent;
        }

gives_said : (ls : List Line) (r : Refusal) → Gives ls r → first_said ls ≡ Err r
gives_said ls r g =
    ap first_said g.order ∙ said_append g.earlier (g.this ∷ g.rest)
    ∙ ap (λ (x : Result Unit Refusal). or_else x (first_said (g.this ∷ g.rest))) (silent_accepted g.earlier g.silent)
    ∙ ap (λ (b : Bool). cond b (Err g.this.gives) (first_said g.rest)) g.speaks
    ∙ ap Err g.refusal

pub refused_iff : (ls : List Line) (r : Refusal) → (first_said ls ≡ Err r) ↔ Gives ls r
refused_iff ls r = (said_gives ls r, gives_said ls r)

pub check_refused : (n : ℕ) (rows : List ℕ) (r : Refusal) → (check_of n rows ≡ Err r) ↔ Gives (graph_lines n rows) r
unfolding check_of
check_refused n rows r = refused_iff (graph_lines n rows) r

-- ---- a row that gets no number
pub record Fine (n k : ℕ) (r : Row) : Type 0 where
  pub kind : strange_kind r ≡ false
  pub member : strange_member n r ≡ false
  pub itself : waits_on_itself k r ≡ false
  pub threshold : wrong_threshold r ≡ false
  pub extra : extra_set r ≡ false
  pub sets : bad_sets r ≡ false

pub fine : (n k : ℕ) (r : Row) → Silent (row_lines n k r) → Fine n k r
fine n k r h = record {
  kind = h (line StrangeKind k (strange_kind r)) (here refl);
  member = h (line StrangeMember k (strange_member n r)) (there (here refl));
  itself = h (line WaitsOnItself k (waits_on_itself k r)) (there (there (here refl)));
  threshold = h (line WrongThreshold k (wrong_threshold r)) (there (there (there (here refl))));
  extra = h (line ExtraSet k (extra_set r)) (there (there (there (there (here refl)))));
  sets = h (line BadSets k (bad_sets r)) (there (there (there (there (there (here refl))))));
}

-- ---- what an accepted graph's lines say
row_of : (n : ℕ) (rows : List ℕ) (m j k : ℕ) (l : Line) → j ≤ k → k < j + m → Memᴰ l (row_lines n k (row_at rows k)) → Memᴰ l (rows_lines n rows j m)
row_of n rows zero j k l a b i = absurd (omega arith)
row_of n rows (suc m) j k l a b i =
    let ih = row_of n rows m (suc j) k l in
    ⊎_elim
    (λ (q : j ≡ k). Memᴰ.append_left {s = row_lines n j (row_at rows j)} (rows_lines n rows (suc j) m) (rw q i))
    (λ (q : j < k). Memᴰ.append_right (row_lines n j (row_at rows j)) (ih q (omega arith) i))
    (eq-or-lt_of_le a)

module _ (n : ℕ) (rows : List ℕ) (ok : check_of n rows ≡ Ok tt) where
  pub accepted_count : wrong_count n (length rows) ≡ false
  accepted_count = (check_accepted n rows).0 ok (line WrongCount 0 (wrong_count n (length rows))) (here refl)

  pub accepted_shaped : Shaped n rows
  accepted_shaped = right_count n (length rows) accepted_count

  accepted_lines : (k : ℕ) → k < n → Silent (row_lines n k (row_at rows k))
  accepted_lines k h l i =
      (check_accepted n rows).0 ok l
      (there (Memᴰ.append_left (line ManyEdges 0 (many_edges n rows) ∷ []) (row_of n rows n 0 k l (omega arith) (omega arith) i)))

  pub accepted_row : (k : ℕ) → k < n → Fine n k (row_at rows k)
  accepted_row k h = fine n k (row_at rows k) (accepted_lines k h)
