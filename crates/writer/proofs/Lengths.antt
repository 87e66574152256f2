-- How long the file of an accepted graph can be. Assumes nothing.
use mathlib.Core.Path.{◌≡◌, refl, ap}
use mathlib.Core.Bool.{Bool, true, false, cond, not, ◌&&◌}
use mathlib.Core.List.Memᴰ
use mathlib.Core.List.{List, [], ◌∷◌, map, Memᴰ}
use mathlib.Core.List.Memᴰ.{head as here}
use mathlib.Core.List.Memᴰ.{tail as there}
use Prim.Native.Nat.{ℕ, zero, suc, ◌+◌, ◌*◌, ◌≤◌, ◌<◌}
use native.Mathlib.Omega.{arith}
use lib.Dec.{leb, eqb}
use lib.ListN.{length, length-append}
use borrow.Author.Tests.{leb-true, ltb-false, eqb-true, not-false}
use Rattle.std.specs.Prelude.{Ok}
use Rattle.lemmas.proofs.Tests.{and_right}
use Rattle.nodes.specs.Sets.{In, members, size}
use Rattle.nodes.specs.Words.{num}
use Rattle.nodes.proofs.Inside.{inside_in, inside_lt}
use Rattle.nodes.proofs.Members.{members_in}
use Rattle.nodes.proofs.Size.{size_members, size_le, size_mono}
use Rattle.waits.specs.declared.rows.Row.{Row}
use Rattle.waits.specs.Waits.{Waits, edges_to, edges}
use Rattle.waits.specs.Rows.{row_at, sets_of, out_of, rows_at, rows_of, waits_of}
use Rattle.waits.specs.Numbers.{most_edges, line, strange_kind, wrong_threshold, many_edges, rows_lines, check_of}
use Rattle.waits.proofs.Table.{check_accepted, accepted_shaped, accepted_row}
use Rattle.waits.proofs.Condition.{out_set}
use Rattle.waits.proofs.Lawful.{accepted_lawful}
use Rattle.waits.proofs.In.{out_inside}
use Rattle.text.specs.Words.{word, decimal}
use Rattle.text.proofs.Decimal.{decimal_two}
use Rattle.format.specs.Cut.{space, comma, cr, lf, behind, joined, ended}
use Rattle.format.specs.Written.{set_text, row_text, row_texts, header_text, file_of}
use Rattle.writer.specs.Answer.{longest_file}
use Rattle.waits.specs.declared.refusals.Reason.TheVariants.{ManyEdges}

-- ---- a set: three bytes at most for each member
abbrev Small : List ℕ → Type 0
Small l = (k : ℕ) → Memᴰ k l → k < 100

behind_length : (l : List ℕ) → Small l → length (behind space (map decimal l)) ≤ 3 * length l
unfolding behind
behind_length [] h = omega arith
behind_length (k ∷ l) h =
    omega (arith, length-append (decimal k) (behind space (map decimal l)), decimal_two k (h k (here refl)), behind_length l (λ j m. h j (there m)))

joined_length : (l : List ℕ) → Small l → length (joined space (map decimal l)) ≤ 3 * length l
unfolding joined
joined_length [] h = omega arith
joined_length (k ∷ l) h =
    omega (arith, length-append (decimal k) (behind space (map decimal l)), decimal_two k (h k (here refl)), behind_length l (λ j m. h j (there m)))

set_length : (s : ℕ) → ((k : ℕ) → In k s → k < 100) → length (set_text s) ≤ 3 * size s
unfolding set_text
set_length s h = omega (arith, joined_length (members s) (λ k m. h k ((members_in s k).0 m)), size_members s)

-- ---- a row: three numbers of two digits, six commas, and four sets, of which none has more members than OUT
field_length : (p : List ℕ) (ps : List (List ℕ)) → length (behind comma (p ∷ ps)) ≡ 1 + length p + length (behind comma ps)
unfolding behind
field_length p ps = let e = length-append p (behind comma ps) in omega arith

module _ (k : ℕ) (r : Row) (out : (j : ℕ) → In j (out_of r) → j < 100) where
  set_short : (q : ℕ) → Memᴰ q (sets_of r) → length (set_text q) ≤ 3 * size (out_of r)
  set_short q m =
      let all : (j : ℕ) → In j q → In j (out_of r) = λ j i. out_set r q j m i in
      omega (arith, set_length q (λ j i. out j (all j i)), size_mono q (out_of r) (inside_in q (out_of r) all))

  row_length : k < 100 → r.kind < 100 → r.threshold < 100 → length (row_text k r) ≤ 12 + 12 * size (out_of r)
  unfolding row_text joined behind
  row_length a b c =
      let four : List (List ℕ) = set_text (num r.fourth) ∷ [] in
      let three : List (List ℕ) = set_text (num r.third) ∷ four in
      let two : List (List ℕ) = set_text (num r.second) ∷ three in
      let one : List (List ℕ) = set_text (num r.first) ∷ two in
      let threshold : List (List ℕ) = decimal r.threshold ∷ one in
      omega (
        arith,
        length-append (decimal k) (behind comma (decimal r.kind ∷ threshold)),
        field_length (decimal r.kind) threshold,
        field_length (decimal r.threshold) one,
        field_length (set_text (num r.first)) two,
        field_length (set_text (num r.second)) three,
        field_length (set_text (num r.third)) four,
        field_length (set_text (num r.fourth)) [],
        decimal_two k a,
        decimal_two r.kind b,
        decimal_two r.threshold c,
        set_short (num r.first) (here refl),
        set_short (num r.second) (there (here refl)),
        set_short (num r.third) (there (there (here refl))),
        set_short (num r.fourth) (there (there (there (here refl)))),
      )

threshold_most : (r : Row) → wrong_threshold r ≡ false → r.threshold ≤ size (num r.first)
unfolding wrong_threshold
threshold_most r e = go (eqb r.kind 1) e
  where
    go : (b : Bool) → cond b (not (leb 1 r.threshold && leb r.threshold (size (num r.first)))) (not (eqb r.threshold 0)) ≡ false
        → r.threshold ≤ size (num r.first)
    go true h = leb-true _ _ (and_right (leb 1 r.threshold) _ (not-false _ h))
    go false h = let z = eqb-true r.threshold 0 (not-false _ h) in omega arith

-- ---- the file
module _ (n : ℕ) (rows : List ℕ) (ok : check_of n rows ≡ Ok tt) where
  abbrev w : Waits
  w = waits_of n rows

  few : n ≤ 64
  few = (accepted_shaped n rows ok).0

  line_length : (k : ℕ) → k < n → length (row_text k (row_at rows k)) ≤ 12 + 12 * size (w.out k)
  unfolding strange_kind
  line_length k h =
      let r : Row = row_at rows k in
      let fine = accepted_row n rows ok k h in
      let law = accepted_lawful n rows ok in
      let kind = ltb-false 2 r.kind fine.kind in
      let first = size_mono (num r.first) (out_of r) (inside_in _ _ (λ j i. out_set r (num r.first) j (here refl) i)) in
      let all = size_le n (out_of r) (inside_lt n (out_of r) (out_inside w law k h)) in
      let threshold = threshold_most r fine.threshold in
      row_length k r (λ j i. let l = law.closed k j h i in omega (arith, few)) (omega (arith, few)) (omega arith) (omega (arith, few))

  lines_length : (m k : ℕ) → k + m ≤ n → length (ended (row_texts k (rows_at rows k m))) + 12 * edges_to w k ≤ 14 * m + 12 * edges_to w (k + m)
  unfolding ended row_texts rows_at edges_to
  lines_length zero k h = omega (arith, ap (edges_to w) (let e : k + 0 ≡ k = omega arith in e))
  lines_length (suc m) k h =
      let this : List ℕ = row_text k (row_at rows k) in
      let others : List ℕ = ended (row_texts (suc k) (rows_at rows (suc k) m)) in
      omega (
        arith,
        length-append this (cr ∷ lf ∷ others),
        line_length k (omega arith),
        lines_length m (suc k) (omega arith),
        ap (edges_to w) (let e : suc k + m ≡ k + suc m = omega arith in e),
      )

  edges_few : edges w ≤ most_edges
  unfolding many_edges
  edges_few =
      ltb-false most_edges (edges w) ((check_accepted n rows).0 ok (line ManyEdges 0 (many_edges n rows)) (there (Memᴰ.append_right (rows_lines n rows 0 n) (here refl))))

  -- Theorem: no file of an accepted graph is longer than this.
  pub file_short : length (file_of n rows) ≤ longest_file
  unfolding file_of ended rows_of header_text joined behind word edges edges_to
  file_short =
      omega (
        arith,
        length-append header_text (cr ∷ lf ∷ ended (row_texts 0 (rows_at rows 0 n))),
        lines_length n 0 (omega arith),
        ap (edges_to w) (let e : 0 + n ≡ n = omega arith in e),
        edges_few,
        few,
      )
