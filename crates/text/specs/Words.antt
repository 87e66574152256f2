-- What is written, as bytes: words and numbers in decimal. Assumes nothing.
use Rattle.std.specs.Prelude.{cond, List, [], ◌∷◌, ◌++◌, ℕ, zero, suc, ◌+◌, ◌/◌, ◌%◌, ltb}
use Prim.Native.Char.{code}
use Prim.Native.String.{String, [] as []ₛ, ◌∷◌ as ◌∷ₛ◌}

-- the bytes of a word of plain letters, in order: each letter's number
unfoldable pub word : String → List ℕ
word []ₛ = []
word (c ∷ₛ s) = code c ∷ word s

-- the byte of a number below ten
abbrev pub digit : ℕ → ℕ
digit n = 48 + n

-- a number's digits: below ten its own, else those of its tenth and then its last; `most` bounds how many there can be
unfoldable pub digits : (most : ℕ) → ℕ → List ℕ
digits zero n = []
digits (suc most) n =
    let longer = digits most (n / 10) ++ digit (n % 10) ∷ [] in
    cond (ltb n 10) (digit n ∷ []) longer

-- in decimal, with no leading zero; 0 is one digit. A number below ten has one digit, and a tenth is smaller, so n + 1 is enough.
unfoldable pub decimal : ℕ → List ℕ
decimal n = digits (suc n) n
