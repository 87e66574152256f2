-- The lines that the programs answer with: of a replay one for each answer, one for each message, and the one where there is
-- nothing to replay; and the line of a refusal as a whole. Assumes nothing.
use Rattle.std.specs.Prelude.{cond, List, [], ◌∷◌, ◌++◌, ℕ, zero, suc, ◌/◌, ◌%◌, ◌^◌, eqb}
use Prim.Native.String.{String}
use Rattle.text.specs.Words.{word, decimal}

-- a number after a space
unfoldable pub field : ℕ → List ℕ
field n = word " " ++ decimal n

-- An answer code's name: one of a table, or a refusal of that number.
abbrev pub name_in : List (ℕ × String) → ℕ → List ℕ
name_in [] code = word "refused" ++ field code
name_in (n ∷ l) code = cond (eqb code n.0) (word n.1) (name_in l code)

abbrev pub names : List (ℕ × String)
names =
    (100, "old")
    ∷ (101, "stray")
    ∷ (102, "repeat")
    ∷ (110, "taken")
    ∷ (111, "taken deadlocked")
    ∷ (112, "taken not-deadlocked")
    ∷ (120, "opened")
    ∷ (121, "opened deadlocked")
    ∷ (122, "opened not-deadlocked")
    ∷ []

unfoldable pub name_of : ℕ → List ℕ
name_of code = name_in names code

-- an answer is coded as sent * 2^16 + code: the name, then how many messages are sent
unfoldable pub answer_line : ℕ → List ℕ
answer_line x = name_of (x % 2 ^ 16) ++ field (x / 2 ^ 16) ++ word "\n"

unfoldable pub answer_lines : List ℕ → List ℕ
answer_lines [] = []
answer_lines (x ∷ l) = answer_line x ++ answer_lines l

-- 0 NOTIFY, 1 GRANT, 2 ACK, 3 DONE; there are no others
unfoldable pub kind_name : ℕ → List ℕ
kind_name zero = word "NOTIFY"
kind_name (suc zero) = word "GRANT"
kind_name (suc (suc zero)) = word "ACK"
kind_name (suc (suc (suc k))) = word "DONE"

-- message k of the list
unfoldable pub message_line : (k kind from to round : ℕ) → List ℕ
message_line k kind from to round =
    word "message" ++ field k ++ word " " ++ kind_name kind ++ field from ++ field to ++ field round ++ word "\n"

-- a refusal as a whole: its number, and where it is, 0 if that is nowhere
unfoldable pub refused_line : ℕ → ℕ → List ℕ
refused_line n place = word "refused" ++ field n ++ field place ++ word "\n"

-- the input is no script
unfoldable pub no_script_line : List ℕ
no_script_line = word "refused script\n"
