-- The fields of a line, as they are taken one after the other. Assumes nothing.
use mathlib.Core.Path.{◌≡◌, refl, sym, ap, ap₂, ◌∙◌}
use mathlib.Core.Bool.{Bool, true, false}
use mathlib.Core.Logic.{⊎_elim}
use mathlib.Core.List.{List, [], ◌∷◌}
use mathlib.Core.Option.{Option as Maybe, none, some}
use Prim.Native.Nat.{ℕ, ◌+◌, ◌-◌, ◌≤◌, ◌<◌}
use native.Mathlib.Omega.{arith}
use lib.Dec.{leb, eqb}
use lib.ListN.{length, take, drop, length-drop}
use lib.Seq.{take_all}
use borrow.Author.Tests.{le-leb, lt-leb, eq-eqb, ne_eqb, leb-true, leb-false, eqb-true, eqb-false}
use Rattle.std.specs.Prelude.{Option, Some, None}
use Rattle.std.specs.Bool.{then_some}
use Rattle.lemmas.proofs.Cases.{at_true, at_false}
use Rattle.lemmas.proofs.Tests.{true_or_false}
use Rattle.nodes.specs.declared.Set.{Set}
use Rattle.nodes.specs.Words.{num, as_set}
use Rattle.nodes.proofs.Words.{as_num}
use Rattle.format.specs.Cut.{comma}
use Rattle.format.specs.Fields.{bare, number_of, set_in, same, word_in, Fields, Taken, taken, next, done}
use Rattle.format.specs.Files.{fields}
use Rattle.fields.specs.Answers.{numbered, gathered}
use Rattle.fields.specs.Ends.{up_to, pieces_from}
use Rattle.fields.proofs.Finding.{up_le, pieces_start, pieces_none, pieces_next}
use Rattle.fields.proofs.Told.{told_none, told_number, told_no_set, told_set}
use Rattle.reader.specs.declared.places.At.{At}
use Rattle.reader.specs.Places.{left, field_at, place_for, place_after, answered_at, number_at, set_at}

-- ---- places
module _ (line : List ℕ) where
  pub left_start : left line 0 ≡ fields line
  unfolding left
  left_start = sym (at_true none (le-leb 0 (length line + 1) (omega arith)) refl) ∙ ap some (pieces_start comma line)

  pub left_here : (from : ℕ) → from ≤ length line + 1 → left line from ≡ some (pieces_from comma line from)
  unfolding left
  left_here from h = sym (at_true none (le-leb from (length line + 1) h) refl)

  pub left_far : (from : ℕ) → length line + 1 < from → left line from ≡ none
  unfolding left
  left_far from h = sym (at_false (some (pieces_from comma line from)) (lt-leb from (length line + 1) h) refl)

  left_last : left line (length line + 1) ≡ some []
  left_last = left_here (length line + 1) (omega arith) ∙ ap some (pieces_none comma line (length line + 1) (omega arith))

  -- all fields are taken exactly one past the end
  pub done_at : (p : ℕ) → done (left line p) ≡ eqb p (length line + 1)
  done_at p =
      ⊎_elim
      (λ (t : leb p (length line) ≡ true).
      let h = leb-true p (length line) t in
      ap done (left_here p (omega arith) ∙ ap some (pieces_next comma line p (p + up_to comma (drop p line)) h refl))
      ∙ sym (ne_eqb p (length line + 1) (λ e. omega arith)))
      (λ (t : leb p (length line) ≡ false).
      let h = leb-false p (length line) t in
      ⊎_elim
      (λ (u : eqb p (length line + 1) ≡ true). rw (eqb-true p (length line + 1) u) (ap done left_last ∙ sym (eq-eqb (length line + 1) (length line + 1) refl)))
      (λ (u : eqb p (length line + 1) ≡ false).
      ap done (left_far p (beyond h (eqb-false p (length line + 1) u))) ∙ sym u)
      (true_or_false (eqb p (length line + 1))))
      (true_or_false (leb p (length line)))
    where
      beyond : {p n : ℕ} → n < p → (p ≡ n + 1 → ⊥) → n + 1 < p
      beyond h e = omega arith

-- ---- a field, and the fields after it
module _ (line : List ℕ) (from : ℕ) where
  abbrev long : ℕ
  long = up_to comma (drop from line)

  pub field_is : {end : ℕ} {t rest : List ℕ} → rest ≡ take (length line - from) (drop from line) → end ≡ up_to comma rest → t ≡ bare (take end rest)
      → (t ≡ (field_at line from).value) × (from + end + 1 ≡ (field_at line from).next)
  unfolding field_at
  field_is {end} {t} {rest} r e f =
      let whole : rest ≡ drop from line = r ∙ take_all (length line - from) (drop from line) (omega (arith, length-drop from line)) in
      let far : end ≡ long = e ∙ ap (up_to comma) whole in
      (f ∙ ap₂ (λ (n : ℕ) (l : List ℕ). bare (take n l)) far whole, ap (λ (n : ℕ). from + n + 1) far)

  abbrev others : List (List ℕ)
  others = pieces_from comma line (field_at line from).next

  module _ (h : from ≤ length line) where
    field_after : left line (field_at line from).next ≡ some others
    unfolding field_at
    field_after = left_here line (from + long + 1) (omega (arith, up_le comma (drop from line), length-drop from line))

    field_next : (f : List ℕ → Maybe ℕ) → next f (left line from) ≡ taken (f (field_at line from).value) others
    unfolding next field_at
    field_next f =
        ap (next f)
        (left_here line from (omega arith)
        ∙ ap some
        (pieces_next comma line from (from + long) h refl
        ∙ ap (λ (n : ℕ). take n (drop from line) ∷ pieces_from comma line (from + long + 1)) (let q : from + long - from ≡ long = omega arith in q)))

-- ---- what is taken
module _ (f : List ℕ → Maybe ℕ) (line : List ℕ) (from : ℕ) where
  pub taken_past : length line < from → next f (left line from) ≡ taken none []
  unfolding next
  taken_past h =
      ⊎_elim
      (λ (t : leb from (length line + 1) ≡ true).
      ap (next f) (left_here line from (leb-true from (length line + 1) t) ∙ ap some (pieces_none comma line from h)))
      (λ (t : leb from (length line + 1) ≡ false). ap (next f) (left_far line from (leb-false from (length line + 1) t)))
      (true_or_false (leb from (length line + 1)))

  pub taken_here : from ≤ length line → {t : List ℕ} → t ≡ (field_at line from).value → {o : Maybe ℕ} → f t ≡ o → next f (left line from) ≡ taken o (others line from)
  taken_here h g e = field_next line from h f ∙ ap (λ (o : Maybe ℕ). taken o (others line from)) (ap f (sym g) ∙ e)

  -- the place behind it
  pub place_wrong : next f (left line from) ≡ taken none [] → length line + 2 ≡ place_after f line from
  unfolding place_after
  place_wrong e = ap (λ (t : Taken). place_for line from t.rest) (sym e)

  pub place_right : {v : ℕ} {ws : List (List ℕ)} {n : ℕ} → next f (left line from) ≡ taken (some v) ws → n ≡ (field_at line from).next → n ≡ place_after f line from
  unfolding place_after
  place_right e g = g ∙ ap (λ (t : Taken). place_for line from t.rest) (sym e)

  -- Law: it stands for the fields that are left.
  pub left_after : left line (place_after f line from) ≡ (next f (left line from)).rest
  left_after =
      ⊎_elim
      (λ (t : leb from (length line) ≡ true).
      let h = leb-true from (length line) t in by (f (field_at line from).value) (field_after line from h) (taken_here h refl refl))
      (λ (t : leb from (length line) ≡ false). lost (taken_past (leb-false from (length line) t)))
      (true_or_false (leb from (length line)))
    where
      lost : next f (left line from) ≡ taken none [] → left line (place_after f line from) ≡ (next f (left line from)).rest
      lost e = ap (left line) (sym (place_wrong e)) ∙ left_far line (length line + 2) (omega arith) ∙ ap (λ (t : Taken). t.rest) (sym e)

      by : (o : Maybe ℕ) {ws : List (List ℕ)} → left line (field_at line from).next ≡ some ws → next f (left line from) ≡ taken o ws
          → left line (place_after f line from) ≡ (next f (left line from)).rest
      by none a e = lost e
      by (some v) a e = ap (left line) (sym (place_right e refl)) ∙ a ∙ ap (λ (t : Taken). t.rest) (sym e)

-- a word
module _ (word w : List ℕ) where
  pub word_is : same w word ≡ true → word_in word w ≡ some 0
  unfolding word_in
  word_is e = sym (at_true none e refl)

  pub word_not : same w word ≡ false → word_in word w ≡ none
  unfolding word_in
  word_not e = sym (at_false (some 0) e refl)

-- a set of this number
set_is : (u : Set) {x : ℕ} → num u ≡ x → u ≡ as_set x
set_is u h = sym (as_num u) ∙ ap as_set h

-- ---- numbers and sets
module _ (line : List ℕ) (from : ℕ) where
  pub number_wrong : next number_of (left line from) ≡ taken none [] → record { value = 0; next = length line + 2 } ≡ number_at line from
  unfolding number_at
  number_wrong e = λ i. record { value = (sym e i).value; next = place_wrong number_of line from e i }

  pub number_right : {v : ℕ} {ws : List (List ℕ)} {n : ℕ} → next number_of (left line from) ≡ taken (some v) ws → n ≡ (field_at line from).next
      → record { value = v; next = n } ≡ number_at line from
  unfolding number_at
  number_right e g = λ i. record { value = (sym e i).value; next = place_right number_of line from e g i }

  pub set_wrong : {s : Set} → num s ≡ 0 → next set_in (left line from) ≡ taken none [] → record { value = s; next = length line + 2 } ≡ set_at line from
  unfolding set_at
  set_wrong {s} z e = λ i. record { value = set_is s (z ∙ ap (λ (t : Taken). t.value) (sym e)) i; next = place_wrong set_in line from e i }

  pub set_right : {s : Set} {ws : List (List ℕ)} {n : ℕ} → next set_in (left line from) ≡ taken (some (num s)) ws → n ≡ (field_at line from).next
      → record { value = s; next = n } ≡ set_at line from
  unfolding set_at
  set_right {s} e g = λ i. record { value = set_is s (ap (λ (t : Taken). t.value) (sym e)) i; next = place_right set_in line from e g i }

-- ---- as they are read: past the line, or where the field stands
module _ (line : List ℕ) (from : ℕ) where
  pub number_by : (r : At ℕ) → (length line < from → r ≡ answered_at line from 0 None) → (from ≤ length line → (o : Option ℕ) × (o ≡ numbered (number_of (field_at line from).value)) × (r ≡ answered_at line from 0 o)) → r ≡ number_at line from
  number_by r past here =
      ⊎_elim
      (λ (t : leb from (length line) ≡ true). let h = leb-true from (length line) t in let q = here h in go h q.0 q.1 q.2)
      (λ (t : leb from (length line) ≡ false). let h = leb-false from (length line) t in past h ∙ number_wrong line from (taken_past number_of line from h))
      (true_or_false (leb from (length line)))
    where
      go : from ≤ length line → (o : Option ℕ) → o ≡ numbered (number_of (field_at line from).value) → r ≡ answered_at line from 0 o → r ≡ number_at line from
      go h None e q = q ∙ number_wrong line from (taken_here number_of line from h refl (told_none _ e))
      go h (Some v) e q = q ∙ number_right line from (taken_here number_of line from h refl (told_number _ e)) refl

  pub set_by : (r : At Set) {zero : Set} → num zero ≡ 0 → (length line < from → r ≡ answered_at line from zero None) → (from ≤ length line → (o : Option Set) × (o ≡ gathered (set_in (field_at line from).value)) × (r ≡ answered_at line from zero o)) → r ≡ set_at line from
  set_by r {zero} z past here =
      ⊎_elim
      (λ (t : leb from (length line) ≡ true). let h = leb-true from (length line) t in let q = here h in go h q.0 q.1 q.2)
      (λ (t : leb from (length line) ≡ false). let h = leb-false from (length line) t in past h ∙ set_wrong line from z (taken_past set_in line from h))
      (true_or_false (leb from (length line)))
    where
      go : from ≤ length line → (o : Option Set) → o ≡ gathered (set_in (field_at line from).value) → r ≡ answered_at line from zero o → r ≡ set_at line from
      go h None e q = q ∙ set_wrong line from z (taken_here set_in line from h refl (told_no_set _ e))
      go h (Some s) e q = q ∙ set_right line from (taken_here set_in line from h refl (told_set _ e)) refl

  pub word_by : (word : List ℕ) (r : At Unit) → (length line < from → r ≡ answered_at line from tt None) → (from ≤ length line → (o : Option Unit) × (o ≡ then_some (same (field_at line from).value word) tt) × (r ≡ answered_at line from tt o)) → r.next ≡ place_after (word_in word) line from
  word_by word r past here =
      ⊎_elim
      (λ (t : leb from (length line) ≡ true). let h = leb-true from (length line) t in let q = here h in go h (same (field_at line from).value word) refl (q.2 ∙ ap (answered_at line from tt) q.1))
      (λ (t : leb from (length line) ≡ false). let h = leb-false from (length line) t in ap (λ (x : At Unit). x.next) (past h) ∙ place_wrong (word_in word) line from (taken_past (word_in word) line from h))
      (true_or_false (leb from (length line)))
    where
      go : from ≤ length line → (b : Bool) → same (field_at line from).value word ≡ b → r ≡ answered_at line from tt (then_some b tt) → r.next ≡ place_after (word_in word) line from
      go h true e q = ap (λ (x : At Unit). x.next) q ∙ place_right (word_in word) line from (taken_here (word_in word) line from h refl (word_is word _ e)) refl
      go h false e q = ap (λ (x : At Unit). x.next) q ∙ place_wrong (word_in word) line from (taken_here (word_in word) line from h refl (word_not word _ e))

-- ---- one after the other: if the fields are known by another name
module _ (line : List ℕ) (from : ℕ) {fs : Fields} (known : left line from ≡ fs) where
  pub rest_then : (f : List ℕ → Maybe ℕ) {after : ℕ} → after ≡ place_after f line from → left line after ≡ (next f fs).rest
  rest_then f e = ap (left line) e ∙ left_after f line from ∙ ap (λ (m : Fields). (next f m).rest) known

  module _ {n : At ℕ} (e : n ≡ number_at line from) where
    pub number_rest : left line n.next ≡ (next number_of fs).rest
    unfolding number_at
    number_rest = rest_then number_of (ap (λ (x : At ℕ). x.next) e)

    pub number_value : n.value ≡ (next number_of fs).value
    unfolding number_at
    number_value = ap (λ (x : At ℕ). x.value) e ∙ ap (λ (m : Fields). (next number_of m).value) known

  module _ {s : At Set} (e : s ≡ set_at line from) where
    pub set_rest : left line s.next ≡ (next set_in fs).rest
    unfolding set_at
    set_rest = rest_then set_in (ap (λ (x : At Set). x.next) e)

    pub set_value : s.value ≡ as_set (next set_in fs).value
    unfolding set_at
    set_value = ap (λ (x : At Set). x.value) e ∙ ap (λ (m : Fields). as_set (next set_in m).value) known
