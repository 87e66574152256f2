-- The walks along the members of a set and along the fields of a line. Assumes nothing.
use mathlib.Core.Path.{◌≡◌, refl, sym, ap, ◌∙◌}
use mathlib.Core.Bool.{true, false, not}
use mathlib.Core.List.{List, [], ◌∷◌}
use Prim.Native.Nat.{ℕ, suc, ◌+◌, ◌≤◌, ◌<◌}
use native.Mathlib.Numerals.{add-one}
use native.Mathlib.Omega.{arith}
use lib.Dec.{eqb}
use lib.ListN.{length, drop}
use borrow.Author.Tests.{eqb-true, lt-ltb, le-ltb}
use Rattle.std.specs.Prelude.{Result, Ok, Err}
use Rattle.lemmas.proofs.Cases.{at_true, at_false}
use Rattle.lemmas.proofs.Tests.{and_intro, and_first, and_later}
use Rattle.format.specs.Cut.{space, comma, lf, pieces}
use Rattle.format.specs.Fields.{value_from, bare}
use Rattle.faults.specs.declared.flaws.Flaw.{Flaw}
use Rattle.faults.specs.declared.flaws.Flaw.TheVariants.{Missing}
use Rattle.faults.specs.declared.Fault.{Fault}
use Rattle.faults.specs.declared.Fault.TheVariants.{BareLf, Semicolons, Column, MoreFields, NotNext}
use Rattle.faults.specs.Flaws.{number_flaw, member_in, member_then, members_flaw, set_flaw}
use Rattle.faults.specs.Faults.{semicolon, has, line_fault, columns, field_flaw, column_then, fields_fault}
use Rattle.faults.proofs.Judging.{member_back}

-- ---- the members of a set: what is wrong with those that are left is what is wrong with the set
abbrev pub MembersLeft : List ℕ → ℕ → ℕ → Type 0
MembersLeft w lowest i = members_flaw lowest (drop i (pieces space w)) ≡ set_flaw w

pub set_empty : (w : List ℕ) → eqb (length w) 0 ≡ true → Ok tt ≡ set_flaw w
unfolding set_flaw
set_empty [] e = refl
set_empty (x ∷ w) e = absurd (omega (arith, eqb-true _ _ e))

pub members_start : (w : List ℕ) → eqb (length w) 0 ≡ false → MembersLeft w 0 0
unfolding set_flaw
members_start [] n = absurd cc
members_start (x ∷ w) n = refl

module _ (w : List ℕ) (lowest i : ℕ) (s : MembersLeft w lowest i) where
  module _ {piece : List ℕ} (at : drop i (pieces space w) ≡ piece ∷ drop (i + 1) (pieces space w)) where
    then : member_then (member_in lowest piece) (members_flaw (value_from 0 piece + 1) (drop (i + 1) (pieces space w))) ≡ set_flaw w
    unfolding members_flaw
    then = ap (members_flaw lowest) (sym at) ∙ s

    pub member_wrong : {f : Flaw} → Err f ≡ member_in lowest piece → Err f ≡ set_flaw w
    member_wrong e = rw (sym e) at then

    pub member_next : {v : ℕ} → Ok v ≡ member_in lowest piece → MembersLeft w (v + 1) (i + 1)
    member_next {v} e =
        let b = member_back lowest piece v (sym e) in
        ap (λ (x : ℕ). members_flaw (x + 1) (drop (i + 1) (pieces space w))) (sym b.value) ∙ rw (sym e) at then

  pub members_all : drop i (pieces space w) ≡ [] → Ok tt ≡ set_flaw w
  unfolding members_flaw
  members_all h = ap (members_flaw lowest) (sym h) ∙ s

-- ---- a field
module _ (column : ℕ) (w : List ℕ) {t : List ℕ} (bared : t ≡ bare w) {r : Result Unit Flaw} where
  pub field_number : column < 3 → r ≡ number_flaw t → r ≡ field_flaw column w
  unfolding field_flaw
  field_number h e = at_true _ (lt-ltb column 3 h) (e ∙ ap number_flaw bared)

  pub field_set : 3 ≤ column → r ≡ set_flaw t → r ≡ field_flaw column w
  unfolding field_flaw
  field_set h e = at_false _ (le-ltb column 3 h) (e ∙ ap set_flaw bared)

-- ---- the fields of a line
abbrev pub FieldsLeft : List ℕ → ℕ → ℕ → Type 0
FieldsLeft line i column = fields_fault column (drop i (pieces comma line)) ≡ fields_fault 0 (pieces comma line)

module _ (line : List ℕ) (i column : ℕ) (s : FieldsLeft line i column) where
  module _ {field : List ℕ} (at : drop i (pieces comma line) ≡ field ∷ drop (i + 1) (pieces comma line)) where
    pub fields_more : columns ≤ column → MoreFields ≡ fields_fault 0 (pieces comma line)
    unfolding fields_fault
    fields_more h = at_false _ (le-ltb column columns h) refl ∙ ap (fields_fault column) (sym at) ∙ s

    module _ (here : column < columns) where
      later : column_then column (field_flaw column field) (fields_fault (suc column) (drop (i + 1) (pieces comma line))) ≡ fields_fault 0 (pieces comma line)
      unfolding fields_fault
      later = at_true MoreFields (lt-ltb column columns here) refl ∙ ap (fields_fault column) (sym at) ∙ s

      pub fields_wrong : {f : Flaw} → Err f ≡ field_flaw column field → Column column f ≡ fields_fault 0 (pieces comma line)
      fields_wrong e = rw (sym e) at later

      pub fields_next : Ok tt ≡ field_flaw column field → FieldsLeft line (i + 1) (column + 1)
      fields_next e = ap (λ (c : ℕ). fields_fault c (drop (i + 1) (pieces comma line))) (add-one column) ∙ rw (sym e) at later

  module _ (behind : drop i (pieces comma line) ≡ []) where
    ended : fields_fault column [] ≡ fields_fault 0 (pieces comma line)
    ended = ap (fields_fault column) (sym behind) ∙ s

    pub fields_missing : column < columns → Column column Missing ≡ fields_fault 0 (pieces comma line)
    unfolding fields_fault
    fields_missing h = at_true NotNext (lt-ltb column columns h) refl ∙ ended

    pub fields_all : columns ≤ column → NotNext ≡ fields_fault 0 (pieces comma line)
    unfolding fields_fault
    fields_all h = at_false (Column column Missing) (le-ltb column columns h) refl ∙ ended

-- ---- any line
module _ (line : List ℕ) (own : Fault) where
  pub line_lf : has lf line ≡ true → BareLf ≡ line_fault line own
  unfolding line_fault
  line_lf e = at_true _ e refl

  module _ (no-lf : has lf line ≡ false) where
    pub line_plain : has semicolon line ≡ false → own ≡ line_fault line own
    unfolding line_fault
    line_plain e = at_false _ no-lf (at_false _ (and_first (not (has comma line)) e) refl)

    pub line_commas : has comma line ≡ true → own ≡ line_fault line own
    unfolding line_fault
    line_commas e = at_false _ no-lf (at_false _ (and_later (has semicolon line) (ap not e)) refl)

    pub line_semicolons : has semicolon line ≡ true → has comma line ≡ false → Semicolons ≡ line_fault line own
    unfolding line_fault
    line_semicolons e f = at_false _ no-lf (at_true _ (and_intro (has semicolon line) (not (has comma line)) e (ap not f)) refl)
