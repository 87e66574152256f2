-- A list of steps on a fresh bench, whose records and messages are parts of longer lists. Assumes nothing.
use mathlib.Core.Path.{◌≡◌, refl, sym, ap, ap₂, ◌∙◌, subst}
use mathlib.Core.Bool.{Bool, true, false}
use mathlib.Core.List.{List, ◌∷◌, ◌++◌, append-nil}
use Prim.Native.Nat.{ℕ, zero, suc, ◌*◌, ◌≤◌}
use native.Mathlib.Nat.{le_of_suc-le-suc, not-suc-le-zero}
use native.Mathlib.Omega.{arith}
use lib.ListN.{length, take, length-replicate, length-append, drop_of_length-le}
use lib.Seq.{sets, take-append-le}
use borrow.Author.Tests.{le-ltb}
use Rattle.std.specs.Prelude.{Result, Ok}
use Rattle.waits.specs.declared.refusals.Refusal.{Refusal}
use Rattle.lemmas.proofs.Cases.{at_false}
use Rattle.lemmas.proofs.Stores.{in_front_lem, front_taken}
use Rattle.nodes.specs.Words.{places}
use Rattle.lent.specs.Kept.{record_size, record_numbers}
use Rattle.bench.specs.declared.calls.Ran.{Ran}
use Rattle.bench.specs.Bench.{Bench, bench, fresh}
use Rattle.bench.specs.Strange.{strange_bench, Good}
use Rattle.bench.specs.Runs.{Run, run, run_on, answers_on, run_of}
use Rattle.bench.proofs.Sound.{good_sound, shaped, sent_listed}
use Rattle.bench.proofs.Turns.{run_good, answers_length, run_refused, run_taken}
use Rattle.transcript.specs.Transcript.{zeros, told_of, told, BeginSays}

-- ---- lists of zeros
pub take_zeros : (n m : ℕ) → n ≤ m → take n (zeros m) ≡ zeros n
take_zeros zero m h = refl
take_zeros (suc n) zero h = absurd (not-suc-le-zero h)
take_zeros (suc n) (suc m) h = ap (λ (l : List ℕ). 0 ∷ l) (take_zeros n m (le_of_suc-le-suc h))

pub zeros_length : (n : ℕ) → length (zeros n) ≡ n
zeros_length n = length-replicate n 0

-- as many numbers as there are places fill them all
pub filled : (n : ℕ) (l : List ℕ) → length l ≡ n → sets (zeros n) 0 l ≡ l
filled n l e =
    in_front_lem (zeros n) l (omega (arith, zeros_length n))
    ∙ ap (λ (x : List ℕ). l ++ x) (drop_of_length-le (zeros n) {i = length l} (omega (arith, zeros_length n))) ∙ append-nil l

-- ---- the records of a graph that isn't too large
numbers_few : (n : ℕ) → n ≤ places → record_numbers n ≡ n * record_size
unfolding record_numbers
numbers_few n h = sym (at_false 0 (le-ltb places n h) refl)

-- ---- the bench of a script
module _ (n : ℕ) (rows : List ℕ) (room : ℕ) (steps found : List ℕ) (enough : length steps ≤ length found) where
  -- the bench that the code begins with
  abbrev begun : Bench
  begun = bench (zeros (record_numbers n)) (zeros room) 0 0

  same_bench : n ≤ places → begun ≡ fresh n (zeros room)
  same_bench h = ap (λ (k : ℕ). bench (zeros k) (zeros room) 0 0) (numbers_few n h)

  -- both are refused, or they are the same and neither is
  both : (p q : Bool) → strange_bench n rows begun ≡ p → strange_bench n rows (fresh n (zeros room)) ≡ q → p ≡ q
  both true true e f = refl
  both false false e f = refl
  both true false e f = sym e ∙ ap (strange_bench n rows) (same_bench (shaped n rows (fresh n (zeros room)) (good_sound n rows (fresh n (zeros room)) f)).0) ∙ f
  both false true e f = sym e ∙ ap (strange_bench n rows) (same_bench (shaped n rows begun (good_sound n rows begun e)).0) ∙ f

  module _ (r : Ran) (records messages answers rest : List ℕ)
      (e : run (bench records messages r.sent r.highest.0) answers r.checked ≡ run_of n rows begun steps found) where
    refused_says : strange_bench n rows begun ≡ true → BeginSays n rows room steps r (messages ++ rest) answers
    unfolding told_of
    refused_says s =
        let f = e ∙ run_refused n rows begun steps found s in
        let g = run_refused n rows (fresh n (zeros room)) steps (zeros (length steps)) (sym (both true _ s refl)) in
        let none : r.sent ≡ 0 = ap (λ (x : Run). x.bench.sent) f in
        record {
          text = ap (λ (c : Result Unit Refusal). told_of c (take (length steps) answers) (take r.sent (messages ++ rest))) (ap (λ (x : Run). x.checked) f) ∙ sym (ap told g);
          listed = omega (arith, none);
        }

    taken_says : Good n rows begun → BeginSays n rows room steps r (messages ++ rest) answers
    taken_says s =
        let same = same_bench (shaped n rows begun (good_sound n rows begun s)).0 in
        let f = e ∙ run_taken n rows begun steps found s enough in
        let none : length (zeros (length steps)) ≡ length steps = zeros_length (length steps) in
        let g = run_taken n rows (fresh n (zeros room)) steps (zeros (length steps)) (sym (both false _ s refl)) (omega (arith, none)) in
        let ended = run_on n rows begun steps in
        let said = answers_on n rows begun steps in
        let count = answers_length n rows steps begun in
        let listed : ended.sent ≤ length ended.messages = sent_listed n rows ended (good_sound n rows ended (run_good n rows steps begun s)) in
        let sent : r.sent ≡ ended.sent = ap (λ (x : Run). x.bench.sent) f in
        let list : messages ≡ ended.messages = ap (λ (x : Run). x.bench.messages) f in
        let here : r.sent ≤ length messages = omega (arith, sent, listed, ap length list) in
        let first : take (length steps) answers ≡ said =
        ap (λ (x : Run). take (length steps) x.answers) f ∙ front_taken found said (sym count) (omega (arith, count)) in
        let whole : sets (zeros (length steps)) 0 said ≡ said = filled (length steps) said count in
        let part : take r.sent (messages ++ rest) ≡ take ended.sent ended.messages =
        take-append-le r.sent messages rest here ∙ ap₂ take sent list in
        record {
          text =
              (λ i. told_of (f i).checked (first i) (part i))
              ∙ ap (λ (b : Bench). told_of (Ok tt) (answers_on n rows b steps) (take (run_on n rows b steps).sent (run_on n rows b steps).messages)) same
              ∙ ap (λ (l : List ℕ). told_of (Ok tt) l (take (run_on n rows (fresh n (zeros room)) steps).sent (run_on n rows (fresh n (zeros room)) steps).messages))
              (sym (subst (λ (b : Bench). sets (zeros (length steps)) 0 (answers_on n rows b steps) ≡ answers_on n rows b steps) same whole))
              ∙ sym (ap told g);
          listed = omega (arith, here, length-append messages rest);
        }

    pub begin_says : BeginSays n rows room steps r (messages ++ rest) answers
    begin_says = by (strange_bench n rows begun) refl
      where
        by : (p : Bool) → strange_bench n rows begun ≡ p → BeginSays n rows room steps r (messages ++ rest) answers
        by true s = refused_says s
        by false s = taken_says s

-- the same of parts of longer lists
pub begin_as : (n : ℕ) (rows : List ℕ) (room : ℕ) (steps found : List ℕ) → length steps ≤ length found
    → (r : Ran) (records messages answers rest : List ℕ) (size most all : ℕ) {lent list : List ℕ}
    → size ≡ record_numbers n → size ≤ most → lent ≡ zeros most → room ≤ all → list ≡ zeros all
    → run (bench records messages r.sent r.highest.0) answers r.checked ≡ run_of n rows (bench (take size lent) (take room list) 0 0) steps found
    → BeginSays n rows room steps r (messages ++ rest) answers
begin_as n rows room steps found h r records messages answers rest size most all {lent} {list} s l z k y e =
    let a : take size lent ≡ zeros (record_numbers n) = ap (take size) z ∙ take_zeros size most l ∙ ap zeros s in
    let b : take room list ≡ zeros room = ap (take room) y ∙ take_zeros room all k in
    begin_says n rows room steps found h r records messages answers rest
    (e ∙ ap₂ (λ (x y : List ℕ). run_of n rows (bench x y 0 0) steps found) a b)
