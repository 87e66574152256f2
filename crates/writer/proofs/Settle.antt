-- What the writer of a file answers and leaves, from what its callees said. Assumes nothing.
use mathlib.Core.Path.{◌≡◌, refl, sym, ap, ap₂, ◌∙◌}
use mathlib.Core.List.{List, [], ◌∷◌, ◌++◌}
use mathlib.Core.List.Memᴰ.{head as here}
use Prim.Native.Nat.{ℕ, ◌≤◌}
use native.Mathlib.Omega.{arith}
use lib.ListN.{length, take, drop, replicate, length-replicate}
use lib.Seq.{take_at, length-take-le}
use lib.Dec.{ltb}
use borrow.Author.Tests.{ltb-false}
use Rattle.std.specs.Prelude.{Result, Ok, Err}
use Rattle.waits.specs.declared.refusals.Refusal.{Refusal}
use Rattle.waits.specs.Numbers.{Line, line, graph_lines, first_said, check_of}
use Rattle.waits.proofs.Table.{accepted_silent}
use Rattle.waits.proofs.Next.{Next, next, after, refused_before}
use Rattle.text.specs.Text.{Text, text, write}
use Rattle.text.proofs.Writing.{write_fits, written_end}
use Rattle.format.specs.Written.{file_of}
use Rattle.writer.specs.Answer.{short_room, check_file_of, answer, leave, written_of, left_of, WrittenSays, longest_file}
use Rattle.writer.proofs.Lengths.{file_short}
use Rattle.waits.specs.declared.refusals.Reason.TheVariants.{ShortRoom}

-- ---- the file was made in a place of its own
module _ (n : ℕ) (rows blank made : List ℕ) (end : ℕ) (m : text made end ≡ write (text blank 0) (file_of n rows)) where
  pub made_inside : end ≤ length made
  made_inside = written_end blank (file_of n rows) m

  pub made_length : end ≡ length (take end made)
  made_length = sym (length-take-le end made made_inside)

  -- which is long enough if the graph is accepted
  module _ (ok : check_of n rows ≡ Ok tt) (room : blank ≡ replicate longest_file 0) where
    whole : text made end ≡ text (file_of n rows ++ drop (length (file_of n rows)) blank) (length (file_of n rows))
    whole = m ∙ write_fits blank (file_of n rows) (omega (arith, file_short n rows ok, ap length room, length-replicate {A = ℕ} longest_file 0))

    count : end ≡ length (file_of n rows)
    count = ap (λ (t : Text). t.end) whole

    front : take end made ≡ file_of n rows
    front = ap (take end) (ap (λ (t : Text). t.places) whole) ∙ take_at (file_of n rows) _ end (sym count)

-- ---- what is answered and left
module _ (n : ℕ) (rows found : List ℕ) where
  settled : {c : Result Unit Refusal} → c ≡ check_file_of n rows (length found) → WrittenSays n rows found (leave c (file_of n rows) found) (answer c (file_of n rows))
  unfolding written_of left_of
  settled e = (ap (λ (c : Result Unit Refusal). answer c (file_of n rows)) e, ap (λ (c : Result Unit Refusal). leave c (file_of n rows) found) e)

  abbrev last : Line
  last = line ShortRoom 0 (short_room n rows (length found))

  follows : Next (check_of n rows) last (check_file_of n rows (length found))
  unfolding check_of check_file_of
  follows = next (graph_lines n rows) last

  -- the graph is refused
  pub graph_refused : {r : Refusal} → check_of n rows ≡ Err r → WrittenSays n rows found found (Err r)
  graph_refused e = settled (refused_before last follows e)

  module _ (ok : check_of n rows ≡ Ok tt) {blank : List ℕ} (room : blank ≡ replicate longest_file 0) (made : List ℕ) (end : ℕ) (m : text made end ≡ write (text blank 0) (file_of n rows)) where
    -- which is said of the lent bytes, by the end of what was made
    last_said : first_said (line ShortRoom 0 (ltb (length found) end) ∷ []) ≡ check_file_of n rows (length found)
    unfolding short_room
    last_said =
        ap (λ (k : ℕ). first_said (line ShortRoom 0 (ltb (length found) k) ∷ [])) (count n rows blank made end m ok room)
        ∙ sym (after last follows ok)

    -- the lent bytes are too few
    pub room_short : {r : Refusal} → first_said (line ShortRoom 0 (ltb (length found) end) ∷ []) ≡ Err r → WrittenSays n rows found found (Err r)
    room_short e = settled (sym e ∙ last_said)

    -- or not, and what was made is copied into them
    pub file_written : first_said (line ShortRoom 0 (ltb (length found) end) ∷ []) ≡ Ok tt → {copy : List ℕ} → copy ≡ take end made
        → WrittenSays n rows found (copy ++ drop end found) (Ok end)
    file_written h e =
        let same : end ≡ length (file_of n rows) = count n rows blank made end m ok room in
        let says = settled (sym h ∙ last_said) in
        (ap Ok same ∙ says.0, ap₂ (λ (l : List ℕ) (i : ℕ). l ++ drop i found) (e ∙ front n rows blank made end m ok room) same ∙ says.1)

-- too few are lent, or there is a place for each
pub room_enough : (found end : ℕ) → first_said (line ShortRoom 0 (ltb found end) ∷ []) ≡ Ok tt → end ≤ found
room_enough found end e = ltb-false found end (accepted_silent (line ShortRoom 0 (ltb found end) ∷ []) e (line ShortRoom 0 (ltb found end)) (here refl))
