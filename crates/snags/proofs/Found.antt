-- What is found in the numbers and in the bytes, from what the callees said. Assumes nothing.
use mathlib.Core.Path.{◌≡◌, refl, sym, ap, ◌∙◌}
use mathlib.Core.Bool.{false, true≢false, cond, not}
use mathlib.Core.List.{List}
use mathlib.Core.Logic.{⊎_elim}
use Prim.Native.Nat.{ℕ, ◌≤◌, ◌<◌}
use native.Mathlib.Omega.{arith}
use lib.Dec.{ltb, eqb}
use lib.ListN.{length, take, drop}
use borrow.Author.Tests.{lt-ltb, le-ltb, eq-eqb, ne_eqb}
use Rattle.lemmas.proofs.Cases.{at_true, at_false}
use Rattle.std.specs.Prelude.{Option, Some, None, Result, Ok, Err}
use Rattle.script.specs.declared.stops.Stop.{Stop}
use Rattle.script.specs.Numbers.{numbers_of, ReadSays}
use Rattle.script.specs.Stops.{stop_of}
use Rattle.script.specs.Script.{most, most_numbers, longest}
use Rattle.script.proofs.Stopping.{at_end, good_ends}
use Rattle.script.proofs.Counts.{bad_count, read_front}
use Rattle.script.proofs.Shapes.{tail, tail_drop}
use Rattle.snags.specs.declared.finding.Snag.{Snag}
use Rattle.snags.specs.declared.finding.Snag.TheVariants.{Long, Crowd, Few, ManyRows, WideRoom, ManySteps, Uneven}
use Rattle.snags.specs.Snags.{step_snag, row_count, front, room_in, step_count, wanted, numbers_snag, stop_snag, snag_of}

-- ---- the numbers: what is left to test, one test after the other
abbrev sized : List ℕ → Result Unit Snag
sized l = cond (not (eqb (length l) (wanted l))) (Err (Uneven (length l) (wanted l))) (step_snag 0 (drop (front l) l))

abbrev behind_rows : List ℕ → Result Unit Snag
behind_rows l = cond (ltb most (room_in l)) (Err WideRoom) (cond (ltb most (step_count l)) (Err ManySteps) (sized l))

module _ (l : List ℕ) where
  pub crowded : most_numbers < length l → Err Crowd ≡ numbers_snag l
  unfolding numbers_snag
  crowded h = at_true _ (lt-ltb most_numbers (length l) h) refl

  module _ (a : length l ≤ most_numbers) where
    pub too_few : length l < 4 → Err (Few (length l) 4) ≡ numbers_snag l
    unfolding numbers_snag
    too_few h = at_false _ (le-ltb most_numbers (length l) a) (at_true _ (lt-ltb (length l) 4 h) refl)

    module _ (b : 4 ≤ length l) where
      pub many_rows : most < row_count l → Err ManyRows ≡ numbers_snag l
      unfolding numbers_snag
      many_rows h =
          at_false _ (le-ltb most_numbers (length l) a) (at_false _ (le-ltb (length l) 4 b) (at_true _ (lt-ltb most (row_count l) h) refl))

      module _ (c : row_count l ≤ most) where
        fronted : {r : Result Unit Snag} → r ≡ cond (ltb (length l) (front l)) (Err (Few (length l) (front l))) (behind_rows l) → r ≡ numbers_snag l
        unfolding numbers_snag
        fronted e =
            at_false _ (le-ltb most_numbers (length l) a) (at_false _ (le-ltb (length l) 4 b) (at_false _ (le-ltb most (row_count l) c) e))

        pub rows_missing : length l < front l → Err (Few (length l) (front l)) ≡ numbers_snag l
        rows_missing h = fronted (at_true _ (lt-ltb (length l) (front l) h) refl)

        module _ (d : front l ≤ length l) where
          pub wide_room : most < room_in l → Err WideRoom ≡ numbers_snag l
          wide_room h = fronted (at_false _ (le-ltb (length l) (front l) d) (at_true _ (lt-ltb most (room_in l) h) refl))

          module _ (e : room_in l ≤ most) where
            behind : {r : Result Unit Snag} → r ≡ cond (ltb most (step_count l)) (Err ManySteps) (sized l) → r ≡ numbers_snag l
            behind q = fronted (at_false _ (le-ltb (length l) (front l) d) (at_false _ (le-ltb most (room_in l) e) q))

            pub many_steps : most < step_count l → Err ManySteps ≡ numbers_snag l
            many_steps h = behind (at_true _ (lt-ltb most (step_count l) h) refl)

            module _ (f : step_count l ≤ most) where
              pub uneven : (length l ≡ wanted l → ⊥) → Err (Uneven (length l) (wanted l)) ≡ numbers_snag l
              uneven n = behind (at_false _ (le-ltb most (step_count l) f) (at_true _ (ap not (ne_eqb (length l) (wanted l) n)) refl))

              pub steps_left : length l ≡ wanted l → {r : Result Unit Snag} → r ≡ step_snag 0 (tail l (front l)) → r ≡ numbers_snag l
              steps_left g q =
                  behind (at_false _ (le-ltb most (step_count l) f) (at_false _ (ap not (eq-eqb (length l) (wanted l) g)) (q ∙ ap (step_snag 0) (tail_drop l (front l)))))

-- ---- the bytes
module _ (bytes : List ℕ) where
  pub too_long : longest < length bytes → Err Long ≡ snag_of bytes
  unfolding snag_of
  too_long h = at_true _ (lt-ltb longest (length bytes) h) refl

  module _ (h : length bytes ≤ longest) where
    pub stopped : {s : Result Unit Stop} → s ≡ stop_of bytes → {r : Result Unit Snag} → r ≡ stop_snag s (numbers_of bytes).numbers → r ≡ snag_of bytes
    unfolding snag_of
    stopped e q = at_false _ (le-ltb longest (length bytes) h) (q ∙ ap (λ (x : Result Unit Stop). stop_snag x (numbers_of bytes).numbers) e)

    module _ (e : Ok tt ≡ stop_of bytes) (found left : List ℕ) {n : Option ℕ} where
      -- more numbers than places
      pub read_crowd : length found ≡ most_numbers → n ≡ None → ReadSays bytes found left n → Err Crowd ≡ snag_of bytes
      read_crowd roomy b says =
          stopped e
          (⊎_elim
          (λ (g : (numbers_of bytes).good ≡ false). absurd (true≢false (sym (good_ends bytes ∙ ap at_end (sym e)) ∙ g)))
          (λ (m : length found < length (numbers_of bytes).numbers). crowded (numbers_of bytes).numbers (omega arith))
          (bad_count (length found) (numbers_of bytes) (sym b ∙ says.counted)))

      pub read_some : {count : ℕ} → n ≡ Some count → ReadSays bytes found left n → {x : Result Unit Snag} → x ≡ numbers_snag (take count left) → x ≡ snag_of bytes
      read_some c says q = stopped e (q ∙ ap numbers_snag (read_front bytes found left says.stored (sym c ∙ says.counted)))
