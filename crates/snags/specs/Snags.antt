-- What keeps bytes from being a script, the first thing that does: of the bytes, of how many numbers there are, of the steps; and the line that
-- says it. Assumes nothing.
use Rattle.std.specs.Prelude.{cond, not, List, [], ◌∷◌, ◌++◌, ℕ, suc, ◌+◌, ◌-◌, ◌*◌, ltb, eqb, length, get_or, drop, Result, Ok, Err}
use Rattle.text.specs.Words.{word, decimal}
use Rattle.script.specs.declared.stops.Stop.{Stop}
use Rattle.script.specs.declared.stops.Stop.TheVariants.{Odd as Stop-as-Odd, Large as Stop-as-Large}
use Rattle.script.specs.Numbers.{numbers_of}
use Rattle.script.specs.Stops.{stop_of}
use Rattle.script.specs.Script.{most, most_numbers, longest}
use Rattle.snags.specs.declared.finding.Snag.{Snag}
use Rattle.snags.specs.declared.finding.Snag.TheVariants.{Long, Odd, Large, Crowd, Few, ManyRows, WideRoom, ManySteps, Uneven, Kind, First, Second}

-- ---- the steps, numbered from j on: the first whose kind, a or b is larger than a step can have
unfoldable pub step_snag : (j : ℕ) → List ℕ → Result Unit Snag
step_snag j [] = Ok tt
step_snag j (kind ∷ []) = Ok tt
step_snag j (kind ∷ a ∷ []) = Ok tt
step_snag j (kind ∷ a ∷ b ∷ l) =
    cond (ltb 65535 kind) (Err (Kind j))
    (cond (ltb 16777215 a) (Err (First j))
    (cond (ltb 16777215 b) (Err (Second j))
    (step_snag (suc j) l)))

-- ---- the numbers: the node count, how many row numbers there are, and these; the room, how many steps there are, and these
abbrev pub row_count : List ℕ → ℕ
row_count l = get_or l 1 0

-- so many numbers are in front of the steps, the room and the count of steps last
abbrev pub front : List ℕ → ℕ
front l = row_count l + 4

abbrev pub room_in : List ℕ → ℕ
room_in l = get_or l (front l - 2) 0

abbrev pub step_count : List ℕ → ℕ
step_count l = get_or l (front l - 1) 0

abbrev pub wanted : List ℕ → ℕ
wanted l = front l + 3 * step_count l

unfoldable pub numbers_snag : List ℕ → Result Unit Snag
numbers_snag l =
    cond (ltb most_numbers (length l)) (Err Crowd)
    (cond (ltb (length l) 4) (Err (Few (length l) 4))
    (cond (ltb most (row_count l)) (Err ManyRows)
    (cond (ltb (length l) (front l)) (Err (Few (length l) (front l)))
    (cond (ltb most (room_in l)) (Err WideRoom)
    (cond (ltb most (step_count l)) (Err ManySteps)
    (cond (not (eqb (length l) (wanted l))) (Err (Uneven (length l) (wanted l)))
    (step_snag 0 (drop (front l) l))))))))

-- ---- the bytes: few enough, and nothing but numbers
-- a text that stops has a snag at that line
abbrev pub snag_at : Stop → Snag
snag_at (Stop-as-Odd line) = Odd line
snag_at (Stop-as-Large line) = Large line

abbrev pub stop_snag : Result Unit Stop → List ℕ → Result Unit Snag
stop_snag (Err s) l = Err (snag_at s)
stop_snag (Ok u) l = numbers_snag l

unfoldable pub snag_of : List ℕ → Result Unit Snag
snag_of bytes = cond (ltb longest (length bytes)) (Err Long) (stop_snag (stop_of bytes) (numbers_of bytes).numbers)

-- ---- the words: a line or a step has its number behind its name
abbrev pub placed : (name : List ℕ) → ℕ → (said : List ℕ) → List ℕ
placed name n said = name ++ decimal n ++ said

abbrev pub counted : (there : ℕ) → (least : List ℕ) → (want : ℕ) → List ℕ
counted there least want = word "the count of numbers is " ++ decimal there ++ least ++ decimal want ++ word " are wanted\n"

unfoldable pub words_for : Result Unit Snag → List ℕ
words_for (Ok u) = []
words_for (Err Long) = word "the script has more than 1048576 bytes\n"
words_for (Err (Odd line)) = placed (word "line ") line (word ": a character that is neither a digit nor a blank\n")
words_for (Err (Large line)) = placed (word "line ") line (word ": a number past 64 bits\n")
words_for (Err Crowd) = word "there are more than 32772 numbers\n"
words_for (Err (Few there want)) = counted there (word ", and at least ") want
words_for (Err ManyRows) = word "the count of row numbers is above 8192\n"
words_for (Err WideRoom) = word "the room is above 8192\n"
words_for (Err ManySteps) = word "the count of steps is above 8192\n"
words_for (Err (Uneven there want)) = counted there (word ", and ") want
words_for (Err (Kind j)) = placed (word "step ") j (word ": its kind is above 65535\n")
words_for (Err (First j)) = placed (word "step ") j (word ": a is above 16777215\n")
words_for (Err (Second j)) = placed (word "step ") j (word ": b is above 16777215\n")

-- no such line is longer
abbrev pub longest_words : ℕ
longest_words = 62
