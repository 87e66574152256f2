-- How long the lines of a replay are, whose numbers are below 100,000. Assumes nothing.
use mathlib.Core.Bool.{Bool, true, false, cond}
use mathlib.Core.List.{List, [], ◌∷◌, ◌++◌}
use Prim.Native.Nat.{ℕ, zero, suc, ◌+◌, ◌*◌, ◌/◌, ◌%◌, ◌≤◌, ◌<◌}
use Prim.Native.String.{String}
use native.Mathlib.Omega.{arith}
use lib.Dec.{eqb}
use lib.ListN.{length, length-append}
use Rattle.text.specs.Words.{word, decimal}
use Rattle.text.proofs.Decimal.{decimal_five}
use Rattle.lines.specs.Lines.{field, name_in, names, name_of, answer_line, kind_name, message_line, refused_line, no_script_line}

-- one part after another
pub joined : (xs ys : List ℕ) (m n : ℕ) → length xs ≤ m → length ys ≤ n → length (xs ++ ys) ≤ m + n
joined xs ys m n h k = omega (arith, length-append xs ys)

field_length : (n : ℕ) → n < 100000 → length (field n) ≤ 6
unfolding field word
field_length n h = joined (word " ") (decimal n) 1 5 (omega arith) (decimal_five n h)

-- ---- an answer's name is at most as long as the longest of the table
abbrev Short : List (ℕ × String) → Type 0
Short [] = Unit {0}
Short (n ∷ l) = (length (word n.1) ≤ 21) × Short l

either : (t : Bool) (xs ys : List ℕ) → length xs ≤ 21 → length ys ≤ 21 → length (cond t xs ys) ≤ 21
either true xs ys h k = h
either false xs ys h k = k

in_length : (l : List (ℕ × String)) (code : ℕ) → Short l → code < 100000 → length (name_in l code) ≤ 21
unfolding word
in_length [] code s h = let r = joined (word "refused") (field code) 7 6 (omega arith) (field_length code h) in omega arith
in_length (n ∷ l) code s h = either (eqb code n.0) (word n.1) (name_in l code) s.0 (in_length l code s.1 h)

name_length : (code : ℕ) → code < 100000 → length (name_of code) ≤ 21
unfolding name_of word
name_length code h = in_length names code (omega arith, (omega arith, (omega arith, (omega arith, (omega arith, (omega arith, (omega arith, (omega arith, (omega arith, tt))))))))) h

pub answer_length : (x : ℕ) → x < 100000 * 65536 → length (answer_line x) ≤ 28
unfolding answer_line word
answer_length x h =
    joined (name_of (x % 65536) ++ field (x / 65536)) (word "\n") 27 1
    (joined (name_of (x % 65536)) (field (x / 65536)) 21 6 (name_length (x % 65536) (omega arith)) (field_length (x / 65536) (omega arith)))
    (omega arith)

kind_length : (kind : ℕ) → length (kind_name kind) ≤ 6
unfolding kind_name word
kind_length zero = omega arith
kind_length (suc zero) = omega arith
kind_length (suc (suc zero)) = omega arith
kind_length (suc (suc (suc k))) = omega arith

pub message_length : (k kind from to round : ℕ) → k < 100000 → from < 100000 → to < 100000 → round < 100000 → length (message_line k kind from to round) ≤ 39
unfolding message_line word
message_length k kind from to round a b c d =
    let m₁ : List ℕ = word "message" ++ field k in
    let m₂ : List ℕ = m₁ ++ word " " in
    let m₃ : List ℕ = m₂ ++ kind_name kind in
    let m₄ : List ℕ = m₃ ++ field from in
    let m₅ : List ℕ = m₄ ++ field to in
    let m₆ : List ℕ = m₅ ++ field round in
    joined m₆ (word "\n") 38 1
    (joined m₅ (field round) 32 6
    (joined m₄ (field to) 26 6
    (joined m₃ (field from) 20 6
    (joined m₂ (kind_name kind) 14 6
    (joined m₁ (word " ") 13 1 (joined (word "message") (field k) 7 6 (omega arith) (field_length k a)) (omega arith))
    (kind_length kind)) (field_length from b)) (field_length to c)) (field_length round d))
    (omega arith)

pub refused_length : (n place : ℕ) → n < 100000 → place < 100000 → length (refused_line n place) ≤ 20
unfolding refused_line word
refused_length n place h k =
    joined (word "refused" ++ field n ++ field place) (word "\n") 19 1
    (joined (word "refused" ++ field n) (field place) 13 6 (joined (word "refused") (field n) 7 6 (omega arith) (field_length n h)) (field_length place k))
    (omega arith)

pub no_script_length : length no_script_line ≤ 15
unfolding no_script_line word
no_script_length = omega arith
