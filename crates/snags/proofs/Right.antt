-- Nothing is said of a script, and something of all other bytes. Assumes nothing.
use mathlib.Core.Path.{◌≡◌, refl, sym, ap, ◌∙◌}
use mathlib.Core.Bool.{Bool, true, false, cond, not, ◌&&◌, true≢false, false≢true}
use mathlib.Core.List.{List, [], ◌∷◌}
use mathlib.Core.Logic.{⊎_elim}
use Prim.Native.Nat.{ℕ, suc}
use native.Mathlib.Omega.{arith}
use lib.Dec.{leb, ltb, eqb}
use lib.ListN.{length, drop}
use borrow.Author.Tests.{lt-ltb, le-ltb, ltb-true, ltb-false, eqb-true, le-leb, leb-true, not-false}
use Rattle.lemmas.proofs.Tests.{and_intro, and_left, and_right, true_or_false}
use Rattle.text.specs.Words.{word}
use Rattle.script.specs.declared.stops.Stop.{Stop}
use Rattle.std.specs.Prelude.{Result, Ok, Err}
use Rattle.script.specs.Numbers.{numbers_of}
use Rattle.script.specs.Stops.{stop_of}
use Rattle.script.specs.Steps.{good_step, good_steps}
use Rattle.script.specs.Script.{most, most_numbers, longest, Script, script_of, meant_by}
use Rattle.script.specs.Script.Meant.{NoScript, IsScript}
use Rattle.script.proofs.Stopping.{at_end, good_ends}
use Rattle.script.proofs.Parsing.{plain, meant_script, meant_none}
use Rattle.script.proofs.Shapes.{tail_drop, script, Passed, is_script, none_or_passed, passed_numbers}
use Rattle.snags.specs.declared.finding.Snag.{Snag}
use Rattle.snags.specs.declared.finding.Snag.TheVariants.{Long, Odd, Large, Crowd, Few, ManyRows, WideRoom, ManySteps, Uneven, Kind, First, Second}
use Rattle.snags.specs.Snags.{step_snag, row_count, front, room_in, step_count, wanted, numbers_snag, stop_snag, snag_of, words_for}
use Rattle.snags.proofs.Found.{steps_left, stopped}

-- ---- Theorem: every snag has words.
abbrev empty : List ℕ → Bool
empty [] = true
empty (x ∷ l) = false

-- whether nothing is said
abbrev none : Result Unit Snag → Bool
none s = empty (words_for s)

none_is : (s : Result Unit Snag) → none s ≡ true → s ≡ Ok tt
unfolding words_for word
none_is (Ok u) e = refl
none_is (Err Long) e = absurd (false≢true e)
none_is (Err (Odd line)) e = absurd (false≢true e)
none_is (Err (Large line)) e = absurd (false≢true e)
none_is (Err Crowd) e = absurd (false≢true e)
none_is (Err (Few there want)) e = absurd (false≢true e)
none_is (Err ManyRows) e = absurd (false≢true e)
none_is (Err WideRoom) e = absurd (false≢true e)
none_is (Err ManySteps) e = absurd (false≢true e)
none_is (Err (Uneven there want)) e = absurd (false≢true e)
none_is (Err (Kind j)) e = absurd (false≢true e)
none_is (Err (First j)) e = absurd (false≢true e)
none_is (Err (Second j)) e = absurd (false≢true e)

pub no_words : (s : Result Unit Snag) → words_for s ≡ [] → s ≡ Ok tt
no_words s e = none_is s (ap empty e)

-- a test that gives a snag was false
nothing_none : {s : Result Unit Snag} → s ≡ Ok tt → none s ≡ true
unfolding words_for
nothing_none e = ap none e

unless : (b : Bool) (x y : Result Unit Snag) → none x ≡ false → cond b x y ≡ Ok tt → (b ≡ false) × (y ≡ Ok tt)
unless true x y h e = absurd (true≢false (sym (nothing_none e) ∙ h))
unless false x y h e = (refl, e)

-- ---- the steps
above : (n m : ℕ) → ltb m (suc n) ≡ not (ltb n m)
above n m =
    ⊎_elim
    (λ (e : ltb n m ≡ true). rw e (let h = ltb-true n m e in le-ltb m (suc n) (omega arith)))
    (λ (e : ltb n m ≡ false). rw e (let h = ltb-false n m e in lt-ltb m (suc n) (omega arith)))
    (true_or_false (ltb n m))

one_step : (x y z : Bool) (j : ℕ) (g : Bool) (r : Result Unit Snag) → g ≡ none r
    → ((not x && (not y && not z)) && g) ≡ none (cond x (Err (Kind j)) (cond y (Err (First j)) (cond z (Err (Second j)) r)))
unfolding words_for word
one_step true y z j g r e = refl
one_step false true z j g r e = refl
one_step false false true j g r e = refl
one_step false false false j g r e = e

steps_none : (j : ℕ) (l : List ℕ) → good_steps l ≡ none (step_snag j l)
unfolding good_steps good_step step_snag words_for
steps_none j [] = refl
steps_none j (kind ∷ []) = refl
steps_none j (kind ∷ a ∷ []) = refl
steps_none j (kind ∷ a ∷ b ∷ l) =
    rw (above 65535 kind, above 16777215 a, above 16777215 b)
    (one_step (ltb 65535 kind) (ltb 16777215 a) (ltb 16777215 b) j (good_steps l) (step_snag (suc j) l) (steps_none (suc j) l))

-- ---- the numbers
passed_nothing : (l : List ℕ) → Passed l → Ok tt ≡ numbers_snag l
passed_nothing l p =
    steps_left l (passed_numbers l p) (omega (arith, p.enough)) p.few_rows p.enough p.small_room_lem p.few_steps (omega (arith, p.size, p.enough))
    (sym (none_is (step_snag 0 _) (sym (steps_none 0 _) ∙ p.good)))

nothing_passed : (l : List ℕ) → numbers_snag l ≡ Ok tt → Passed l
unfolding numbers_snag words_for word
nothing_passed l e =
    let a = unless (ltb most_numbers (length l)) (Err Crowd) _ refl e in
    let b = unless (ltb (length l) 4) (Err (Few (length l) 4)) _ refl a.1 in
    let c = unless (ltb most (row_count l)) (Err ManyRows) _ refl b.1 in
    let d = unless (ltb (length l) (front l)) (Err (Few (length l) (front l))) _ refl c.1 in
    let f = unless (ltb most (room_in l)) (Err WideRoom) _ refl d.1 in
    let g = unless (ltb most (step_count l)) (Err ManySteps) _ refl f.1 in
    let h = unless (not (eqb (length l) (wanted l))) (Err (Uneven (length l) (wanted l))) (step_snag 0 (drop (front l) l)) refl g.1 in
    let size = eqb-true (length l) (wanted l) (not-false _ h.0) in
    record {
      enough = ltb-false (length l) (front l) d.0;
      few_rows = ltb-false most (row_count l) c.0;
      small_room_lem = ltb-false most (room_in l) f.0;
      few_steps = ltb-false most (step_count l) g.0;
      size = omega arith;
      good = ap good_steps (tail_drop l (front l)) ∙ steps_none 0 (drop (front l) l) ∙ nothing_none h.1;
    }

-- ---- the bytes
end_is : (s : Result Unit Stop) → at_end s ≡ true → s ≡ Ok tt
end_is (Ok u) e = refl
end_is (Err s) e = absurd (false≢true e)

stop_nothing : (s : Result Unit Stop) (l : List ℕ) → stop_snag s l ≡ Ok tt → (at_end s ≡ true) × (numbers_snag l ≡ Ok tt)
stop_nothing (Ok u) l e = (refl, e)
stop_nothing (Err s) l e = absurd (cc)

module _ (bytes : List ℕ) where
  abbrev numbers : List ℕ
  numbers = (numbers_of bytes).numbers

  not_script : {s : Script} → NoScript ≡ IsScript s → ⊥
  not_script e = cc

  -- Theorem: there is no snag in a script,
  pub script_nothing : (s : Script) → meant_by bytes ≡ IsScript s → snag_of bytes ≡ Ok tt
  script_nothing s e =
      ⊎_elim
      (λ (t : plain bytes ≡ true).
      let short = leb-true (length bytes) longest (and_left (leb (length bytes) longest) (numbers_of bytes).good t) in
      let end = end_is (stop_of bytes) (sym (good_ends bytes) ∙ and_right (leb (length bytes) longest) (numbers_of bytes).good t) in
      let passed : Passed numbers =
      ⊎_elim (λ (n : script_of numbers ≡ NoScript). absurd (not_script (sym (meant_script bytes t ∙ n) ∙ e))) (λ (p : Passed numbers). p) (none_or_passed numbers) in
      sym (stopped bytes short (sym end) (passed_nothing numbers passed)))
      (λ (t : plain bytes ≡ false). absurd (not_script (sym (meant_none bytes t) ∙ e)))
      (true_or_false (plain bytes))

  -- Theorem: and where there is none it is one.
  pub nothing_script : snag_of bytes ≡ Ok tt → (s : Script) × (meant_by bytes ≡ IsScript s)
  unfolding snag_of words_for word
  nothing_script e =
      let a = unless (ltb longest (length bytes)) (Err Long) _ refl e in
      let b = stop_nothing (stop_of bytes) numbers a.1 in
      let t : plain bytes ≡ true =
      and_intro (leb (length bytes) longest) (numbers_of bytes).good (le-leb (length bytes) longest (ltb-false longest (length bytes) a.0)) (good_ends bytes ∙ b.0)
      in
      (script numbers, meant_script bytes t ∙ is_script numbers (nothing_passed numbers b.1))
