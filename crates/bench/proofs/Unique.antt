-- A call of a bench has one result: the lent lists and the reply are settled by what it promises. Assumes nothing.
use mathlib.Core.Path.{◌≡◌, sym, ap, ◌∙◌}
use mathlib.Core.List.{List}
use Prim.Native.Nat.{ℕ}
use Rattle.bench.specs.declared.steps.Reply.{Reply}
use Rattle.bench.specs.declared.calls.Ran.{Ran}
use Rattle.bench.specs.Bench.{After, bench, after}
use Rattle.bench.specs.Runs.{Run, run}

-- of one step
pub one_reply : {a : After} (records messages records' messages' : List ℕ) (r r' : Reply)
    → after (bench records messages r.sent r.highest.0) r.answer ≡ a
    → after (bench records' messages' r'.sent r'.highest.0) r'.answer ≡ a
    → (records ≡ records') × (messages ≡ messages') × (r ≡ r')
one_reply records messages records' messages' r r' e f =
    let g = e ∙ sym f in (
      ap (λ (x : After). x.bench.records) g,
      ap (λ (x : After). x.bench.messages) g,
      λ i. record { sent = (g i).bench.sent; highest = record { 0 = (g i).bench.highest }; answer = (g i).answer },
    )

-- of a list of steps
pub one_ran : {a : Run} (records messages answers records' messages' answers' : List ℕ) (r r' : Ran)
    → run (bench records messages r.sent r.highest.0) answers r.checked ≡ a
    → run (bench records' messages' r'.sent r'.highest.0) answers' r'.checked ≡ a
    → (records ≡ records') × (messages ≡ messages') × (answers ≡ answers') × (r ≡ r')
one_ran records messages answers records' messages' answers' r r' e f =
    let g = e ∙ sym f in (
      ap (λ (x : Run). x.bench.records) g,
      ap (λ (x : Run). x.bench.messages) g,
      ap (λ (x : Run). x.answers) g,
      λ i. record { sent = (g i).bench.sent; highest = record { 0 = (g i).bench.highest }; checked = (g i).checked },
    )
