-- What is left of the table when the rows below k have no number. Assumes nothing.
use mathlib.Core.Path.{◌≡◌, sym, ap, ◌∙◌}
use mathlib.Core.Bool.{Bool, true, false, cond}
use mathlib.Core.List.{List, [], ◌∷◌, ◌++◌, append_assoc}
use Prim.Native.Nat.{ℕ, suc, ◌+◌, ◌-◌, ◌<◌}
use native.Mathlib.Nat.{sub_self, sub-zero}
use native.Mathlib.Numerals.{add-one}
use native.Mathlib.Omega.{arith}
use lib.ListN.{length}
use Rattle.std.specs.Prelude.{Result, Ok, Err}
use Rattle.waits.specs.declared.refusals.Refusal.{Refusal}
use Rattle.waits.specs.Rows.{row_at}
use Rattle.waits.specs.Numbers.{Line, line, wrong_count, many_edges, row_lines, rows_lines, first_said, check_row_of, check_of}
use Rattle.waits.proofs.Cases.{right_count, many, few}
use Rattle.waits.proofs.Table.{or_else, said_append}
use Rattle.waits.specs.declared.refusals.Reason.TheVariants.{WrongCount, ManyEdges}

-- number 8, the last line; and the answer of the lines of m rows from k on and of that one
abbrev pub last_line : ℕ → List ℕ → List Line
last_line n rows = line ManyEdges 0 (many_edges n rows) ∷ []

abbrev pub said_from : ℕ → List ℕ → ℕ → ℕ → Result Unit Refusal
said_from n rows k m = first_said (rows_lines n rows k m ++ last_line n rows)

-- the answer is that of the rows from k on
abbrev pub Left : ℕ → List ℕ → ℕ → Type 0
Left n rows k = check_of n rows ≡ said_from n rows k (n - k)

module _ (n : ℕ) (rows : List ℕ) where
  counted : {b : Bool} → wrong_count n (length rows) ≡ b → check_of n rows ≡ cond b (Err (line WrongCount 0 true).gives) (said_from n rows 0 n)
  unfolding check_of
  counted e = ap (λ (b : Bool). cond b (Err (line WrongCount 0 true).gives) (said_from n rows 0 n)) e

  pub miscounted : wrong_count n (length rows) ≡ true → Err (line WrongCount 0 true).gives ≡ check_of n rows
  miscounted e = sym (counted e)

  pub begun : wrong_count n (length rows) ≡ false → Left n rows 0
  begun e = counted e ∙ ap (said_from n rows 0) (sym (sub-zero n))

  module _ (k : ℕ) (h : k < n) (left : Left n rows k) where
    -- the lines of row k, then those from the next row on
    split : {x : Result Unit Refusal} → check_row_of n k (row_at rows k) ≡ x → check_of n rows ≡ or_else x (said_from n rows (k + 1) (n - (k + 1)))
    unfolding check_row_of
    split e =
        let here = row_lines n k (row_at rows k) in
        let m = n - (k + 1) in
        let one_more : n - k ≡ suc m = omega arith in
        left ∙ ap (said_from n rows k) one_more
        ∙ ap first_said (append_assoc here (rows_lines n rows (suc k) m) (last_line n rows))
        ∙ said_append here (rows_lines n rows (suc k) m ++ last_line n rows)
        ∙ ap (λ (j : ℕ). or_else (first_said here) (said_from n rows j m)) (sym (add-one k))
        ∙ ap (λ (x : Result Unit Refusal). or_else x (said_from n rows (k + 1) m)) e

    pub passed : check_row_of n k (row_at rows k) ≡ Ok tt → Left n rows (k + 1)
    passed e = split e

    pub stopped : {r : Refusal} → check_row_of n k (row_at rows k) ≡ Err r → Err r ≡ check_of n rows
    stopped e = sym (split e)

  -- after the last row
  pub ended : {b : Bool} (k : ℕ) → k ≡ n → Left n rows k → many_edges n rows ≡ b → cond b (Err (line ManyEdges 0 true).gives) (Ok tt) ≡ check_of n rows
  ended k e left f =
      sym (left ∙ ap (said_from n rows k) (ap (λ (j : ℕ). n - j) e ∙ sub_self n) ∙ ap (λ (b : Bool). cond b (Err (line ManyEdges 0 true).gives) (Ok tt)) f)

-- what the check cites, at each step and at the end
pub ruleset checking = (right_count, miscounted, begun, passed, stopped, many, few, ended)
