-- A line as a whole: the header, and a row. Assumes nothing.
use mathlib.Core.Path.{◌≡◌, refl, sym, ap, ◌∙◌}
use mathlib.Core.List.{List}
use mathlib.Core.Option.{none, some}
use Prim.Native.Nat.{ℕ, ◌+◌}
use lib.Dec.{eqb}
use lib.ListN.{length}
use borrow.Author.Tests.{eq-eqb, ne_eqb}
use Rattle.lemmas.proofs.Cases.{at_true, at_false}
use Rattle.lemmas.proofs.Tests.{and_intro, and_first, and_later}
use Rattle.std.specs.Prelude.{Some, None}
use Rattle.text.specs.Words.{word}
use Rattle.format.specs.Fields.{number_of, set_in, word_in, Taken, next, done}
use Rattle.format.specs.Files.{fields, is_header, row_of}
use Rattle.nodes.specs.declared.Set.{Set}
use Rattle.reader.specs.declared.places.At.{At}
use Rattle.reader.specs.Places.{left, place_after, number_at, set_at}
use Rattle.reader.specs.Answers.{row_said}
use Rattle.reader.proofs.Taking.{left_start, done_at, rest_then, number_rest, number_value, set_rest, set_value}

-- ---- the header: after its words, nothing is left
module _ (line : List ℕ) where
  abbrev Passed : List ℕ → ℕ → ℕ → Type 0
  Passed w from after = after ≡ place_after (word_in w) line from

  pub header_says : (a b c d e f g : ℕ) → Passed (word "node") 0 a → Passed (word "kind") a b → Passed (word "threshold") b c
      → Passed (word "set1") c d → Passed (word "set2") d e → Passed (word "set3") e f → Passed (word "set4") f g
      → eqb g (length line + 1) ≡ is_header line
  unfolding is_header
  header_says a b c d e f g p q r s t u v =
      let on1 = rest_then line _ (left_start line) (word_in (word "node")) p in
      let on2 = rest_then line _ on1 (word_in (word "kind")) q in
      let on3 = rest_then line _ on2 (word_in (word "threshold")) r in
      let on4 = rest_then line _ on3 (word_in (word "set1")) s in
      let on5 = rest_then line _ on4 (word_in (word "set2")) t in
      let on6 = rest_then line _ on5 (word_in (word "set3")) u in
      let on7 = rest_then line _ on6 (word_in (word "set4")) v in
      sym (done_at line g) ∙ ap done on7

-- ---- a row: three numbers and four sets, and then nothing is left
module _ (line : List ℕ) (k : ℕ) {node kind threshold : At ℕ} {set1 set2 set3 set4 : At Set}
    (n : node ≡ number_at line 0)
    (o : kind ≡ number_at line node.next)
    (p : threshold ≡ number_at line kind.next)
    (q : set1 ≡ set_at line threshold.next)
    (r : set2 ≡ set_at line set1.next)
    (s : set3 ≡ set_at line set2.next)
    (t : set4 ≡ set_at line set3.next)
  where
    abbrev taken1 : Taken
    taken1 = next number_of (fields line)

    abbrev taken2 : Taken
    taken2 = next number_of taken1.rest

    abbrev taken3 : Taken
    taken3 = next number_of taken2.rest

    abbrev taken4 : Taken
    taken4 = next set_in taken3.rest

    abbrev taken5 : Taken
    taken5 = next set_in taken4.rest

    abbrev taken6 : Taken
    taken6 = next set_in taken5.rest

    abbrev taken7 : Taken
    taken7 = next set_in taken6.rest

    rest1 : left line node.next ≡ taken1.rest
    rest1 = number_rest line _ (left_start line) n

    rest2 : left line kind.next ≡ taken2.rest
    rest2 = number_rest line _ rest1 o

    rest3 : left line threshold.next ≡ taken3.rest
    rest3 = number_rest line _ rest2 p

    rest4 : left line set1.next ≡ taken4.rest
    rest4 = set_rest line _ rest3 q

    rest5 : left line set2.next ≡ taken5.rest
    rest5 = set_rest line _ rest4 r

    rest6 : left line set3.next ≡ taken6.rest
    rest6 = set_rest line _ rest5 s

    all_taken : done taken7.rest ≡ eqb set4.next (length line + 1)
    all_taken = ap done (sym (set_rest line _ rest6 t)) ∙ done_at line set4.next

    is_node : eqb taken1.value k ≡ eqb node.value k
    is_node = ap (λ (x : ℕ). eqb x k) (sym (number_value line _ (left_start line) n))

    pub row_fields : (set4.next ≡ length line + 1 → ⊥) → None ≡ row_said (row_of k line)
    unfolding row_of row_said
    row_fields h = ap row_said (at_false _ (and_first (eqb taken1.value k) (all_taken ∙ ne_eqb set4.next (length line + 1) h)) refl)

    pub row_node : (node.value ≡ k → ⊥) → None ≡ row_said (row_of k line)
    unfolding row_of row_said
    row_node h = ap row_said (at_false _ (and_later (done taken7.rest) (is_node ∙ ne_eqb node.value k h)) refl)

    pub row_is : set4.next ≡ length line + 1 → node.value ≡ k
        → Some
        (record {
          kind = kind.value;
          threshold = threshold.value;
          first = set1.value;
          second = set2.value;
          third = set3.value;
          fourth = set4.value;
        })
        ≡ row_said (row_of k line)
    unfolding row_of row_said
    row_is h i =
        ap row_said
        (at_true none
        (and_intro (done taken7.rest) (eqb taken1.value k) (all_taken ∙ eq-eqb set4.next (length line + 1) h) (is_node ∙ eq-eqb node.value k i))
        (λ j. some
        (record {
          kind = number_value line _ rest1 o j;
          threshold = number_value line _ rest2 p j;
          first = set_value line _ rest3 q j;
          second = set_value line _ rest4 r j;
          third = set_value line _ rest5 s j;
          fourth = set_value line _ rest6 t j;
        })))
