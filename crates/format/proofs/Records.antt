-- A record by the grammar and a line cut into fields have the same values. Assumes nothing.
use mathlib.Core.Path.{◌≡◌, refl, sym, ap, ap₂, ◌∙◌, subst}
use mathlib.Core.Bool.{false}
use mathlib.Core.List.{List, [], ◌∷◌, map, append-nil}
use Prim.Native.Nat.{ℕ}
use lib.Dec.{eqb}
use Rattle.lemmas.specs.Lists.{any_of}
use Rattle.lemmas.proofs.Any.{any_append}
use Rattle.format.specs.Cut.{comma, cr, pieces, behind, joined}
use Rattle.format.specs.Fields.{bare}
use Rattle.format.specs.Grammar.{text_data, FieldSays, RecordSays}
use Rattle.format.proofs.Joining.{Free, joined_pieces, pieces_alone, pieces_first}
use Rattle.format.proofs.Clean.{no_text, Clean}
use Rattle.format.proofs.Quoting.{field_bare, field_free, bare_field}

-- the values of a line's fields
abbrev pub values_of : List ℕ → List (List ℕ)
values_of line = map bare (pieces comma line)

-- ---- from the grammar
field_comma : (w v : List ℕ) → any_of no_text v ≡ false → FieldSays w v → any_of (eqb comma) w ≡ false
unfolding text_data
field_comma w v t s = field_free comma w v refl refl t s

field_cr : (w v : List ℕ) → any_of no_text v ≡ false → FieldSays w v → any_of (eqb cr) w ≡ false
unfolding text_data
field_cr w v t s = field_free cr w v refl refl t s

-- Law: a record with such values has them as a line, in which there is no CR.
pub record_values : (l v : List ℕ) (vs : List (List ℕ)) → Free no_text (v ∷ vs) → RecordSays l (v ∷ vs) → (values_of l ≡ v ∷ vs) × (any_of (eqb cr) l ≡ false)
record_values l v [] c s = (ap (map bare) (pieces_alone comma l (field_comma l v c.0 s)) ∙ ap (λ (x : List ℕ). x ∷ []) (field_bare l v c.0 s), field_cr l v c.0 s)
record_values l v (u ∷ vs) c s =
    let w = s.0 in
    let rest = s.1 in
    let ih = record_values rest u vs c.1 s.4 in (
      ap values_of s.2
          ∙ ap (map bare) (pieces_first comma w rest (field_comma w v c.0 s.3))
          ∙ ap₂ (λ (x : List ℕ) (xs : List (List ℕ)). x ∷ xs) (field_bare w v c.0 s.3) ih.0,
      ap (any_of (eqb cr)) s.2 ∙ any_append (eqb cr) w (comma ∷ rest) (field_cr w v c.0 s.3) ih.1,
    )

-- ---- and back
joined_record : (p : List ℕ) (ps : List (List ℕ)) → Free no_text (map bare (p ∷ ps)) → RecordSays (joined comma (p ∷ ps)) (map bare (p ∷ ps))
unfolding joined behind
joined_record p [] c = subst (λ (w : List ℕ). FieldSays w (bare p)) (sym (append-nil p)) (bare_field p c.0)
joined_record p (q ∷ ps) c = (p, joined comma (q ∷ ps), refl, bare_field p c.0, joined_record q ps c.1)

pieces_record : (ps : List (List ℕ)) → Clean (map bare ps) → RecordSays (joined comma ps) (map bare ps)
pieces_record [] c = absurd c
pieces_record (p ∷ []) c = absurd c
pieces_record (p ∷ q ∷ ps) c = joined_record p (q ∷ ps) c

-- Law: a line with such values is a record with them.
pub line_record : (l : List ℕ) → Clean (values_of l) → RecordSays l (values_of l)
line_record l c = subst (λ (x : List ℕ). RecordSays x (values_of l)) (joined_pieces comma l) (pieces_record (pieces comma l) c)
