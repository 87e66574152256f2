-- Fields of given forms, one after the other: written they are read as what they are, and those that were read, without quotes and
-- zeros in front, are written back. Assumes nothing.
use mathlib.Core.Path.{◌≡◌, refl, sym, ap, ap₂, ◌∙◌}
use mathlib.Core.Bool.{true, false}
use mathlib.Core.List.{List, [], ◌∷◌, Memᴰ}
use mathlib.Core.List.Memᴰ.{head as here}
use mathlib.Core.List.Memᴰ.{tail as there}
use mathlib.Core.Option.{Option, some}
use Prim.Native.Nat.{ℕ, ◌^◌, ◌<◌}
use lib.Dec.{eqb}
use Rattle.lemmas.specs.Lists.{any_of}
use Rattle.nodes.specs.Sets.{In}
use Rattle.nodes.specs.Words.{places}
use Rattle.text.specs.Words.{decimal}
use Rattle.text.specs.Digits.{is_digit}
use Rattle.format.specs.Cut.{space, quote, pieces}
use Rattle.format.specs.Fields.{no_digit, number_of, set_in, Fields, Taken, next}
use Rattle.format.specs.Written.{set_text}
use Rattle.format.proofs.Joining.{Free, pieces_alone}
use Rattle.format.proofs.Numbers.{decimal_digits, digits_free, number_read, number_digits, number_back}
use Rattle.format.proofs.SetTexts.{Zeroless, set_free, set_read, set_back, number_zeroless, set_zeroless}
use Rattle.format.proofs.Taking.{bare_same, next_taken, next_back}

-- ---- one field

-- a field is a number or the members of a set
pub data Form : Type 0 where
  Number : Form
  Members : Form

-- how it is read, how it is written, and what can be read again
abbrev pub read_as : Form → List ℕ → Option ℕ
read_as Number = number_of
read_as Members = set_in

abbrev text_as : Form → ℕ → List ℕ
text_as Number = decimal
text_as Members = set_text

abbrev Fits : Form → ℕ → Type 0
Fits Number n = n < 2 ^ 64
Fits Members s = (k : ℕ) → In k s → k < places

-- it has digits and spaces only
text_free : (c : ℕ) (f : Form) (v : ℕ) → no_digit c ≡ true → eqb c space ≡ false → any_of (eqb c) (text_as f v) ≡ false
text_free c Number n e d = digits_free c (decimal n) e (decimal_digits n)
text_free c Members s e d = set_free c s e d

text_read : (f : Form) (v : ℕ) → Fits f v → read_as f (text_as f v) ≡ some v
text_read Number n h = number_read n h
text_read Members s h = set_read s h

text_back : (f : Form) (w : List ℕ) (v : ℕ) → Zeroless w → read_as f w ≡ some v → w ≡ text_as f v
unfolding no_digit is_digit
text_back Number w v z e =
    let alone : pieces space w ≡ w ∷ [] = pieces_alone space w (digits_free space w refl (number_digits w v e)) in
    number_back w v e (z w (rw alone (here refl)))
text_back Members w v z e = set_back w v e z

text_zeroless : (f : Form) (v : ℕ) → Zeroless (text_as f v)
text_zeroless Number n = number_zeroless n
text_zeroless Members s = set_zeroless s

-- ---- fields one after the other

-- what is left of the fields after those of the given forms, and what these say
abbrev pub after : List Form → Fields → Fields
after [] fs = fs
after (f ∷ forms) fs = after forms (next (read_as f) fs).rest

abbrev pub values : List Form → Fields → List ℕ
values [] fs = []
values (f ∷ forms) fs = (next (read_as f) fs).value ∷ values forms (next (read_as f) fs).rest

-- how values are written, and that they can be read again
abbrev pub texts : List Form → List ℕ → List (List ℕ)
texts [] vs = []
texts (f ∷ forms) [] = []
texts (f ∷ forms) (v ∷ vs) = text_as f v ∷ texts forms vs

abbrev pub AllFit : List Form → List ℕ → Type 0
AllFit [] [] = Unit {0}
AllFit [] (v ∷ vs) = ⊥
AllFit (f ∷ forms) [] = ⊥
AllFit (f ∷ forms) (v ∷ vs) = Fits f v × AllFit forms vs

pub texts_free : (c : ℕ) (forms : List Form) (vs : List ℕ) → no_digit c ≡ true → eqb c space ≡ false → Free (eqb c) (texts forms vs)
texts_free c [] vs e d = tt
texts_free c (f ∷ forms) [] e d = tt
texts_free c (f ∷ forms) (v ∷ vs) e d = (text_free c f v e d, texts_free c forms vs e d)

pub texts_zeroless : (forms : List Form) (vs : List ℕ) (field : List ℕ) → Memᴰ field (texts forms vs) → Zeroless field
texts_zeroless [] vs field m = absurd (elim m [ ])
texts_zeroless (f ∷ forms) [] field m = absurd (elim m [ ])
texts_zeroless (f ∷ forms) (v ∷ vs) field (here e) = rw e (text_zeroless f v)
texts_zeroless (f ∷ forms) (v ∷ vs) field (there m) = texts_zeroless forms vs field m

-- Law: values that are written are read, and no field is left.
pub texts_read : (forms : List Form) (vs : List ℕ) → AllFit forms vs
    → (after forms (some (texts forms vs)) ≡ some []) × (values forms (some (texts forms vs)) ≡ vs)
unfolding no_digit is_digit
texts_read [] [] h = (refl, refl)
texts_read [] (v ∷ vs) h = absurd h
texts_read (f ∷ forms) [] h = absurd h
texts_read (f ∷ forms) (v ∷ vs) h =
    let ih = texts_read forms vs h.1 in
    let rest = texts forms vs in
    let this = next_taken (read_as f) (text_as f v) rest v (text_free quote f v refl refl) (text_read f v h.0) in (
      ap (λ (t : Taken). after forms t.rest) this ∙ ih.0,
      ap₂ (λ (x : ℕ) (xs : List ℕ). x ∷ xs) (ap (λ (t : Taken). t.value) this) (ap (λ (t : Taken). values forms t.rest) this ∙ ih.1),
    )

-- Law: fields that were read with none left are written so, where none has a quote or a zero in front.
pub texts_back : (forms : List Form) (fs : Fields) → after forms fs ≡ some []
    → (ws : List (List ℕ)) × (fs ≡ some ws) × (Free (eqb quote) ws → ((w : List ℕ) → Memᴰ w ws → Zeroless w) → ws ≡ texts forms (values forms fs))
texts_back [] fs e = ([], e, λ free z. refl)
texts_back (f ∷ forms) fs e =
    let q = texts_back forms (next (read_as f) fs).rest e in
    let r = next_back (read_as f) fs q.0 q.1 in
    let w = r.0 in (
      w ∷ q.0,
      r.1,
      λ free z.
          ap₂ (λ (x : List ℕ) (xs : List (List ℕ)). x ∷ xs)
          (text_back f w (next (read_as f) fs).value (z w (here refl)) (ap (read_as f) (sym (bare_same w free.0)) ∙ r.2))
          (q.2 free.1 (λ x m. z x (there m))),
    )
