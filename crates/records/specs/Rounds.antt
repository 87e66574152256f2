-- Rounds: which there are, and how two of them are compared. Assumes nothing.
use Rattle.std.specs.Prelude.{Bool, true, false, cond, not, ◌||◌, ℕ, ltb, eqb}
use Rattle.std.specs.declared.cmp.Ordering.{Ordering}
use Rattle.std.specs.declared.cmp.Ordering.TheVariants.{Less, Equal, Greater}

-- rounds are 1 to 65,535; fresh records are in round 0
abbrev pub last_round : ℕ
last_round = 65535

-- how a round stands to a record's, behind it, the same or ahead: no other definition says which of two rounds is the older
unfoldable pub compare_of : ℕ → ℕ → Ordering
compare_of round own = cond (ltb round own) Less (cond (ltb own round) Greater Equal)

abbrev pub is_behind : Ordering → Bool
is_behind Less = true
is_behind Equal = false
is_behind Greater = false

abbrev pub is_ahead : Ordering → Bool
is_ahead Less = false
is_ahead Equal = false
is_ahead Greater = true

unfoldable pub behind : ℕ → ℕ → Bool
behind round own = is_behind (compare_of round own)

unfoldable pub ahead : ℕ → ℕ → Bool
ahead round own = is_ahead (compare_of round own)

-- no round has this number
unfoldable pub no_round : ℕ → Bool
no_round round = eqb round 0 || ltb last_round round

-- 10: no such round, or not above the highest so far, which is a record's own round or that of a whole bench
unfoldable pub cannot_open : ℕ → ℕ → Bool
cannot_open own round = no_round round || not (ahead round own)
