-- Text in lent bytes: one byte after the other, clipped at their end. Assumes nothing.
use Rattle.std.specs.Prelude.{cond, List, [], ◌∷◌, ℕ, ◌+◌, ◌≡◌, ltb, length, set}
use Rattle.std.specs.Borrow.{MutBor}
use Rattle.text.specs.declared.Text.{Text as Lent}

-- lent bytes, and how many of them are written
pub record Text : Type 0 where
  pub places : List ℕ
  pub end : ℕ

abbrev pub text : List ℕ → ℕ → Text
text places end = record { places = places; end = end }

-- one byte more: at the end if that is a place, else nothing changes
unfoldable pub one : Text → ℕ → Text
one t b = cond (ltb t.end (length t.places)) (text (set t.places t.end b) (t.end + 1)) t

-- bytes, one after the other
unfoldable pub write : Text → List ℕ → Text
write t [] = t
write t (b ∷ bs) = write (one t b) bs

-- the same of the code's struct, which holds the lent bytes by their reference
abbrev pub held : Lent → Text
held t = text t.room.now t.end

-- the bytes that are lent, of which none is written
pub record Fresh (room : MutBor (List ℕ)) (t : Lent) : Type 0 where
  pub same_room : t.room.ghost_name ≡ room.ghost_name
  pub none_written : held t ≡ text room.now 0

-- the same lent bytes before and after, and what writing makes of what they held
pub record Wrote (before after : Lent) (bytes : List ℕ) : Type 0 where
  pub same_room : after.room.ghost_name ≡ before.room.ghost_name
  pub written : held after ≡ write (held before) bytes
