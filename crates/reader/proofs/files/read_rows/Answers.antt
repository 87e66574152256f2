-- `read_rows` meets its contract. Assumes nothing.
use mathlib.Core.Bool.{not}
use mathlib.Core.List.{List}
use mathlib.Core.Path.{◌≡◌, sym, ap, ◌∙◌}
use Prim.Native.Nat.{ℕ, ◌+◌}
use native.Mathlib.Omega.{arith}
use borrow.Author.Tests.{not-true, not-false}
use Rattle.std.specs.Prelude.{None}
use Rattle.std.proofs.lemmas.Result.{err_from_is_err_and}
use Rattle.lemmas.proofs.Cases.{flag}
use Rattle.format.specs.Files.{row_of}
use Rattle.reader.specs.Answers.{row_said}
use Rattle.reader.proofs.Storing.{storing_broken, storing_all}
use Rattle.reader.proofs.files.read_rows.Goals as goal

pub returns-in_err-r : goal.returns-in_err-r
returns-in_err-r c =
    let n : c.row.result ≡ None = grind arith in
    let p = err_from_is_err_and c.from_residual.result c.from_residual.ensures.1 in
    let v = rw n at c.in_err-r.ensures.value in
    let q : c.in_err-r.field-0.0 ≡ c.loop-rest.k + 2 = cc in
    rw (p.1, p.2, q)
    (storing_broken _ _ _ _ _ c.loop-rest.invariant (flag c.is_empty.ensures (not-true _ (ap not c.loop-rest-test.true)))
    (sym n ∙ c.row.ensures ∙ ap (λ (l : List ℕ). row_said (row_of c.loop-rest.k l)) c.first_line.ensures.0))

pub returns : goal.returns
returns c = storing_all _ _ _ _ _ c.loop-rest.invariant (flag c.is_empty.ensures (not-false _ (ap not c.loop-rest-test.false)))
