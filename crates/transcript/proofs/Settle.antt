-- A script's text, from what came of its steps. Assumes nothing.
use mathlib.Core.Path.{◌≡◌, sym, ap, ◌∙◌}
use mathlib.Core.List.{List}
use Prim.Native.Nat.{ℕ, ◌+◌, ◌≤◌}
use native.Mathlib.Omega.{arith}
use lib.ListN.{length, take, drop}
use lib.Seq.{length-take-le}
use Rattle.bench.specs.declared.calls.Ran.{Ran}
use Rattle.bench.specs.Bench.{fresh}
use Rattle.bench.specs.Runs.{run_of}
use Rattle.lines.specs.Lines.{no_script_line}
use Rattle.script.specs.declared.script.Shape.{Shape}
use Rattle.std.specs.Prelude.{Option, Some, None}
use Rattle.script.specs.Script.{most, most_numbers, Script, meant_by, ParseSays}
use Rattle.script.specs.Script.Meant.{IsScript}
use Rattle.script.proofs.Settled.{Stands, parse_none, parse_script}
use Rattle.transcript.specs.Transcript.{zeros, told_of, told, played, answered_by, transcript_of, BeginSays, script_at}
use Rattle.transcript.proofs.Fresh.{zeros_length}

-- ---- the first steps of a list
first_length : (k : ℕ) (l : List ℕ) → k ≤ length l → k ≡ length (take k l)
first_length k l h = sym (length-take-le k l h)

pub first_fit : (k n : ℕ) (l : List ℕ) → k ≤ length l → k ≤ n → length (take k l) ≤ length (zeros n)
first_fit k n l h i = omega (arith, length-take-le k l h, zeros_length n)

pub all_fit : (n : ℕ) → n ≤ length (zeros n)
all_fit n = omega (arith, zeros_length n)

-- ---- what is told is what was to be played
pub played_as : (numbers steps : List ℕ) (h : Shape) (r : Ran) (rows messages answers : List ℕ) → h.steps ≤ length steps
    → rows ≡ take h.rows (drop 2 numbers) → BeginSays h.nodes rows h.room (take h.steps steps) r messages answers
    → told_of r.checked (take h.steps answers) (take r.sent messages) ≡ played (script_at numbers steps h)
unfolding played
played_as numbers steps h r rows messages answers l e says =
    ap (λ (k : ℕ). told_of r.checked (take k answers) (take r.sent messages)) (first_length h.steps steps l)
    ∙ says.text
    ∙ ap (λ (x : List ℕ). told (run_of h.nodes x (fresh h.nodes (zeros h.room)) (take h.steps steps) (zeros (length (take h.steps steps))))) e

-- ---- what the parser found
module _ (bytes numbers steps numbers' steps' : List ℕ) {p : Option Shape} (says : ParseSays bytes numbers steps numbers' steps' p) where
  pub none_meant : p ≡ None → no_script_line ≡ transcript_of bytes
  unfolding transcript_of
  none_meant e = ap answered_by (sym (parse_none bytes numbers steps numbers' steps' (rw e at says)))

  module _ (m : most_numbers ≤ length numbers) (n : most ≤ length steps) (h : Shape) (e : p ≡ Some h) where
    found : (s : Script) × (meant_by bytes ≡ IsScript s) × Stands numbers' steps steps' s h
    found = parse_script bytes numbers steps numbers' steps' m n h (rw e at says)

    pub some_fits : (h.rows + 2 ≤ most_numbers) × (h.room ≤ most) × (h.steps ≤ most)
    some_fits = let s = found.2 in (omega (arith, s.few_rows), s.small_room_lem, s.few_steps)

    pub some_meant : played (script_at numbers' steps' h) ≡ transcript_of bytes
    unfolding transcript_of
    some_meant =
        let s = found.2 in
        let same : script_at numbers' steps' h ≡ found.0 =
        λ i. record { nodes = s.nodes i; rows = s.rows i; room = s.room i; steps = s.steps i } in
        ap played same ∙ ap answered_by (sym found.1)
