-- How long the line can be: 62 bytes. Assumes nothing.
use mathlib.Core.Path.{◌≡◌, refl}
use mathlib.Core.Bool.{Bool, true, false, cond, not}
use mathlib.Core.List.{List, [], ◌∷◌, ◌++◌}
use Prim.Native.Nat.{ℕ, suc, ◌+◌, ◌≤◌, ◌<◌}
use native.Mathlib.Omega.{arith}
use lib.Dec.{ltb, eqb}
use lib.ListN.{length, drop, length-drop}
use borrow.Author.Tests.{ltb-false}
use Rattle.lemmas.proofs.Cases.{both_branches}
use Rattle.text.specs.Words.{word, decimal}
use Rattle.text.specs.Text.{text, write}
use Rattle.text.proofs.Decimal.{decimal_five, decimal_seven}
use Rattle.text.proofs.Writing.{write_fits}
use Rattle.lines.proofs.Lengths.{joined}
use Rattle.script.specs.declared.stops.Stop.{Stop}
use Rattle.std.specs.Prelude.{Result, Ok, Err}
use Rattle.script.specs.declared.stops.Stop.TheVariants.{Odd as Stop-as-Odd, Large as Stop-as-Large}
use Rattle.script.specs.Numbers.{numbers_of}
use Rattle.script.specs.Stops.{stop_of}
use Rattle.script.specs.Script.{most, most_numbers, longest}
use Rattle.script.proofs.Stopping.{LineBelow, stop_line}
use Rattle.snags.specs.declared.finding.Snag.{Snag}
use Rattle.snags.specs.declared.finding.Snag.TheVariants.{Long, Odd, Large, Crowd, Few, ManyRows, WideRoom, ManySteps, Uneven, Kind, First, Second}
use Rattle.snags.specs.Snags.{step_snag, row_count, front, room_in, step_count, wanted, numbers_snag, stop_snag, snag_of, placed, counted, words_for, longest_words}

-- ---- the numbers of a snag are small: its line, its step, and how many numbers there are and are wanted
abbrev Small : Result Unit Snag → Type 0
Small (Ok u) = Unit {0}
Small (Err Long) = Unit {0}
Small (Err (Odd line)) = line < 10000000
Small (Err (Large line)) = line < 10000000
Small (Err Crowd) = Unit {0}
Small (Err (Few there want)) = (there < 100000) × (want < 100000)
Small (Err ManyRows) = Unit {0}
Small (Err WideRoom) = Unit {0}
Small (Err ManySteps) = Unit {0}
Small (Err (Uneven there want)) = (there < 100000) × (want < 100000)
Small (Err (Kind j)) = j < 100000
Small (Err (First j)) = j < 100000
Small (Err (Second j)) = j < 100000

-- each branch knows how the test came out
by_test : (b : Bool) (x y : Result Unit Snag) → (b ≡ true → Small x) → (b ≡ false → Small y) → Small (cond b x y)
by_test true x y p q = p refl
by_test false x y p q = q refl

steps_small : (j : ℕ) (l : List ℕ) → j + length l < 100000 → Small (step_snag j l)
unfolding step_snag
steps_small j [] h = tt
steps_small j (kind ∷ []) h = tt
steps_small j (kind ∷ a ∷ []) h = tt
steps_small j (kind ∷ a ∷ b ∷ l) h =
    let here : j < 100000 = omega arith in
    both_branches Small (ltb 65535 kind) {x = Err (Kind j)} here
    (both_branches Small (ltb 16777215 a) {x = Err (First j)} here
    (both_branches Small (ltb 16777215 b) {x = Err (Second j)} here
    (steps_small (suc j) l (omega arith))))

numbers_small : (l : List ℕ) → Small (numbers_snag l)
unfolding numbers_snag
numbers_small l =
    by_test (ltb most_numbers (length l)) (Err Crowd) _ (λ t. tt) λ a.
    let all = ltb-false most_numbers (length l) a in
    by_test (ltb (length l) 4) (Err (Few (length l) 4)) _ (λ t. (omega arith, omega arith)) λ b.
    by_test (ltb most (row_count l)) (Err ManyRows) _ (λ t. tt) λ c.
    let rows = ltb-false most (row_count l) c in
    by_test (ltb (length l) (front l)) (Err (Few (length l) (front l))) _ (λ t. (omega arith, omega arith)) λ d.
    by_test (ltb most (room_in l)) (Err WideRoom) _ (λ t. tt) λ e.
    by_test (ltb most (step_count l)) (Err ManySteps) _ (λ t. tt) λ f.
    let steps = ltb-false most (step_count l) f in
    by_test (not (eqb (length l) (wanted l))) (Err (Uneven (length l) (wanted l))) _ (λ t. (omega arith, omega arith)) λ g.
    steps_small 0 (drop (front l) l) (omega (arith, length-drop (front l) l))

stop_small : (s : Result Unit Stop) (l : List ℕ) (m : ℕ) → m < 10000000 → LineBelow m s → Small (stop_snag s l)
stop_small (Ok u) l m h b = numbers_small l
stop_small (Err (Stop-as-Odd line)) l m h b = omega arith
stop_small (Err (Stop-as-Large line)) l m h b = omega arith

snag_small : (bytes : List ℕ) → Small (snag_of bytes)
unfolding snag_of
snag_small bytes =
    by_test (ltb longest (length bytes)) (Err Long) _ (λ t. tt) λ a.
    let short = ltb-false longest (length bytes) a in
    stop_small (stop_of bytes) (numbers_of bytes).numbers (length bytes + 1) (omega arith) (stop_line bytes)

-- ---- and so the words are few
placed_length : (name : List ℕ) (n : ℕ) (said : List ℕ) (k : ℕ) → length (decimal n) ≤ k → length name + k + length said ≤ longest_words
    → length (placed name n said) ≤ longest_words
placed_length name n said k h b =
    let l = joined (name ++ decimal n) said (length name + k) (length said) (joined name (decimal n) (length name) k (omega arith) h) (omega arith) in
    omega arith

counted_length : (there : ℕ) (least : List ℕ) (want : ℕ) → there < 100000 → want < 100000 → length least ≤ 16 → length (counted there least want) ≤ longest_words
unfolding word
counted_length there least want a b h =
    let w₁ : List ℕ = word "the count of numbers is " ++ decimal there in
    let w₂ : List ℕ = w₁ ++ least in
    let w₃ : List ℕ = w₂ ++ decimal want in
    joined w₃ (word " are wanted\n") 50 12
    (joined w₂ (decimal want) 45 5
    (joined w₁ least 29 16 (joined (word "the count of numbers is ") (decimal there) 24 5 (omega arith) (decimal_five there a)) h)
    (decimal_five want b))
    (omega arith)

words_length : (s : Result Unit Snag) → Small s → length (words_for s) ≤ longest_words
unfolding words_for word
words_length (Ok u) h = omega arith
words_length (Err Long) h = omega arith
words_length (Err (Odd line)) h = placed_length (word "line ") line (word ": a character that is neither a digit nor a blank\n") 7 (decimal_seven line h) (omega arith)
words_length (Err (Large line)) h = placed_length (word "line ") line (word ": a number past 64 bits\n") 7 (decimal_seven line h) (omega arith)
words_length (Err Crowd) h = omega arith
words_length (Err (Few there want)) h = counted_length there (word ", and at least ") want h.0 h.1 (omega arith)
words_length (Err ManyRows) h = omega arith
words_length (Err WideRoom) h = omega arith
words_length (Err ManySteps) h = omega arith
words_length (Err (Uneven there want)) h = counted_length there (word ", and ") want h.0 h.1 (omega arith)
words_length (Err (Kind j)) h = placed_length (word "step ") j (word ": its kind is above 65535\n") 5 (decimal_five j h) (omega arith)
words_length (Err (First j)) h = placed_length (word "step ") j (word ": a is above 16777215\n") 5 (decimal_five j h) (omega arith)
words_length (Err (Second j)) h = placed_length (word "step ") j (word ": b is above 16777215\n") 5 (decimal_five j h) (omega arith)

module _ (bytes : List ℕ) where
  abbrev line : List ℕ
  line = words_for (snag_of bytes)

  -- Theorem: no line is longer than this, whatever the bytes.
  pub snag_short : length line ≤ longest_words
  snag_short = words_length (snag_of bytes) (snag_small bytes)

  -- Theorem: in room for so much nothing is clipped: the whole line stands in front, and the bytes after it are as found.
  pub snag_whole : (found : List ℕ) → longest_words ≤ length found → write (text found 0) line ≡ text (line ++ drop (length line) found) (length line)
  snag_whole found h = write_fits found line (omega (arith, snag_short))
