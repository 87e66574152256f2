-- The row of a graph's refusal is one that a graph can have. Assumes nothing.
use mathlib.Core.Path.{◌≡◌, refl, sym, ap}
use mathlib.Core.Bool.{Bool, true, false, cond}
use mathlib.Core.List.{List, [], ◌∷◌, ◌++◌}
use Prim.Native.Nat.{ℕ, zero, suc, ◌+◌, ◌≤◌, ◌<◌}
use native.Mathlib.Omega.{arith}
use lib.ListN.{length}
use Rattle.std.specs.Prelude.{Result, Ok, Err}
use Rattle.nodes.specs.Words.{places}
use Rattle.waits.specs.declared.refusals.Refusal.{Refusal}
use Rattle.waits.specs.Rows.{flat}
use Rattle.waits.specs.Numbers.{Line, line, wrong_count, many_edges, rows_lines, first_said, check_of}
use Rattle.waits.proofs.Cases.{right_count}
use Rattle.waits.proofs.Table.{refused_not_accepted}
use Rattle.format.specs.Files.{Meant, meant_by, Said, judged, said_of, read_of}
use Rattle.format.specs.Files.Meant.{Broken, Rows}
use Rattle.format.specs.Files.Said.{Line as Said-as-Line, Refused, Graph}
use Rattle.waits.specs.declared.refusals.Reason.TheVariants.{WrongCount, ManyEdges}

-- each line of the table gives such a row
abbrev AllPlaced : List Line → Type 0
AllPlaced [] = Unit {0}
AllPlaced (l ∷ ls) = (l.gives.row.0 < places) × AllPlaced ls

rows_placed : (n : ℕ) (rows : List ℕ) (last : List Line) (k m : ℕ) → k + m ≤ places → AllPlaced last → AllPlaced (rows_lines n rows k m ++ last)
rows_placed n rows last k zero h p = p
rows_placed n rows last k (suc m) h p =
    let q : k < places = omega arith in
    (q, (q, (q, (q, (q, (q, rows_placed n rows last (suc k) m (omega arith) p))))))

said_placed : (ls : List Line) (r : Refusal) → AllPlaced ls → first_said ls ≡ Err r → r.row.0 < places
said_placed [] r p e = absurd (refused_not_accepted (sym e))
said_placed (l ∷ ls) r p e = go l.says e (said_placed ls r p.1)
  where
    go : (b : Bool) → cond b (Err l.gives) (first_said ls) ≡ Err r → (first_said ls ≡ Err r → r.row.0 < places) → r.row.0 < places
    go true e ih = let same : l.gives ≡ r = cc in omega (arith, p.0, ap (λ (x : Refusal). x.row.0) same)
    go false e ih = ih e

check_placed : (n : ℕ) (rows : List ℕ) (r : Refusal) → check_of n rows ≡ Err r → r.row.0 < places
unfolding check_of
check_placed n rows r e = go (wrong_count n (length rows)) refl e
  where
    go : (b : Bool) → wrong_count n (length rows) ≡ b
        → cond b (Err (line WrongCount 0 true).gives) (first_said (rows_lines n rows 0 n ++ line ManyEdges 0 (many_edges n rows) ∷ [])) ≡ Err r → r.row.0 < places
    go true w e = let same : (line WrongCount 0 true).gives ≡ r = cc in omega (arith, ap (λ (x : Refusal). x.row.0) same)
    go false w e =
        let last : List Line = line ManyEdges 0 (many_edges n rows) ∷ [] in
        said_placed (rows_lines n rows 0 n ++ last) r (rows_placed n rows last 0 n (omega (arith, (right_count n (length rows) w).0)) (omega arith, tt)) e

-- ---- what a file says
abbrev pub Placed : Said → Type 0
Placed (Said-as-Line k) = Unit {0}
Placed (Refused r) = r.row.0 < places
Placed (Graph n rows) = Unit {0}

judged_placed : (n : ℕ) (rows : List ℕ) (c : Result Unit Refusal) → check_of n rows ≡ c → Placed (judged n rows c)
judged_placed n rows (Err r) e = check_placed n rows r e
judged_placed n rows (Ok tt) e = tt

meant_placed : (m : Meant) → Placed (said_of m)
meant_placed (Broken k) = tt
meant_placed (Rows rs) = judged_placed (length rs) (flat rs) _ refl

pub read_placed : (bytes : List ℕ) → Placed (read_of bytes)
unfolding read_of
read_placed bytes = meant_placed (meant_by bytes)
