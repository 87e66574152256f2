-- Digits that are read one after the other. Assumes nothing.
use Rattle.std.specs.Prelude.{Bool, cond, ◌&&◌, ℕ, ◌+◌, ◌-◌, ◌*◌, ◌^◌, leb, ltb, Option, Some, None}

-- the byte of one of 0 to 9
unfoldable pub is_digit : ℕ → Bool
is_digit b = leb 48 b && leb b 57

-- the number v with one digit more
abbrev pub longer : ℕ → ℕ → ℕ
longer v b = v * 10 + (b - 48)

-- which has 64 bits at most; anything else is none
unfoldable pub grown : ℕ → ℕ → Option ℕ
grown v b = cond (is_digit b) (cond (ltb (longer v b) (2 ^ 64)) (Some (longer v b)) None) None
