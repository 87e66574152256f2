-- What is wrong with a field, the first thing that is. That a field has no flaw exactly if it can be read is shown in proofs/.
-- Assumes nothing.
use Rattle.std.specs.Prelude.{cond, List, [], ◌∷◌, ℕ, ◌+◌, ◌^◌, leb, ltb, eqb, length, Result, Ok, Err}
use Rattle.lemmas.specs.Lists.{any_of}
use Rattle.nodes.specs.Words.{places}
use Rattle.format.specs.Cut.{space, pieces}
use Rattle.format.specs.Fields.{no_digit, value_from}
use Rattle.faults.specs.declared.flaws.Flaw.{Flaw}
use Rattle.faults.specs.declared.flaws.Flaw.TheVariants.{Empty, NoDigit, PastBits, Spaces, Strange, NoPlace, Twice, Descends}

-- a number
unfoldable pub number_flaw : List ℕ → Result Unit Flaw
number_flaw w =
    cond (eqb (length w) 0) (Err Empty)
    (cond (any_of no_digit w) (Err NoDigit)
    (cond (leb (2 ^ 64) (value_from 0 w)) (Err PastBits)
    (Ok tt)))

-- ---- a set

-- a member; the lowest that may stand here is one more than the member before it, or 0 if it is the first
unfoldable pub member_in : (lowest : ℕ) → List ℕ → Result ℕ Flaw
member_in lowest w =
    let m = value_from 0 w in
    cond (eqb (length w) 0) (Err Spaces)
    (cond (any_of no_digit w) (Err Strange)
    (cond (leb places m) (Err NoPlace)
    (cond (eqb (m + 1) lowest) (Err Twice)
    (cond (ltb m lowest) (Err Descends)
    (Ok m)))))

-- the first member that is wrong, or those after it
abbrev pub member_then : Result ℕ Flaw → Result Unit Flaw → Result Unit Flaw
member_then (Ok m) later = later
member_then (Err f) later = Err f

unfoldable pub members_flaw : (lowest : ℕ) → List (List ℕ) → Result Unit Flaw
members_flaw lowest [] = Ok tt
members_flaw lowest (w ∷ ws) = member_then (member_in lowest w) (members_flaw (value_from 0 w + 1) ws)

-- nothing is the set with no members; any other has one piece more than there are spaces
unfoldable pub set_flaw : List ℕ → Result Unit Flaw
set_flaw [] = Ok tt
set_flaw (b ∷ l) = members_flaw 0 (pieces space (b ∷ l))
