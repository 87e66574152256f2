-- A file of waits by the grammar of RFC 4180, said a second time: which bytes are a field, a record and a file, with what values; and which
-- values are the header and the rows. That the definitions by cutting accept exactly these files is a theorem. Assumes nothing.
use Rattle.std.specs.Prelude.{◌≡◌, Bool, false, cond, not, ◌&&◌, ◌||◌, ◌⊎◌, ◌↔◌, List, [], ◌∷◌, ◌++◌, ℕ, suc, ◌-◌, leb, eqb, take}
use Rattle.std.proofs.Math.Option.{some}
use Rattle.lemmas.specs.Lists.{any_of}
use Rattle.nodes.specs.Words.{num}
use Rattle.waits.specs.declared.rows.Row.{Row}
use Rattle.format.specs.Cut.{quote, comma, cr, lf, lines_of, ended}
use Rattle.format.specs.Fields.{number_of, set_in}
use Rattle.format.specs.Files.{headings, meant_by}
use Rattle.format.specs.Files.Meant.{Broken, Rows}

-- TEXTDATA: from space to ~, but for the quote and the comma
unfoldable pub text_data : ℕ → Bool
text_data b = (leb 32 b && leb b 126) && not (eqb b quote || eqb b comma)

-- what may stand in a field that is quoted, a quote there being doubled
unfoldable pub quotable : ℕ → Bool
quotable b = text_data b || (eqb b comma || (eqb b cr || (eqb b lf || eqb b quote)))

abbrev pub AllOf : (ℕ → Bool) → List ℕ → Type 0
AllOf p l = any_of (λ b. not (p b)) l ≡ false

-- each quote doubled
unfoldable pub doubled : List ℕ → List ℕ
doubled [] = []
doubled (b ∷ l) = cond (eqb b quote) (quote ∷ quote ∷ doubled l) (b ∷ doubled l)

-- a field: non-escaped, or escaped
abbrev pub FieldSays : (bytes value : List ℕ) → Type 0
FieldSays w v = ((w ≡ v) × AllOf text_data v) ⊎ ((w ≡ quote ∷ doubled v ++ quote ∷ []) × AllOf quotable v)

-- a record: one field or more, with commas between them
abbrev pub RecordSays : List ℕ → List (List ℕ) → Type 0
RecordSays l [] = ⊥
RecordSays l (v ∷ []) = FieldSays l v
RecordSays l (v ∷ u ∷ vs) = (w : List ℕ) × (rest : List ℕ) × (l ≡ w ++ comma ∷ rest) × FieldSays w v × RecordSays rest (u ∷ vs)

-- a file: one record or more, with CR LF between them, and perhaps behind the last
abbrev pub FileSays : List ℕ → List (List (List ℕ)) → Type 0
FileSays bytes [] = ⊥
FileSays bytes (r ∷ []) = (l : List ℕ) × RecordSays l r × ((bytes ≡ l) ⊎ (bytes ≡ l ++ cr ∷ lf ∷ []))
FileSays bytes (r ∷ s ∷ rs) = (l : List ℕ) × (rest : List ℕ) × (bytes ≡ l ++ cr ∷ lf ∷ rest) × RecordSays l r × FileSays rest (s ∷ rs)

-- ---- of waits

-- the values of a record are the row of node k
pub record RowSays (k : ℕ) (values : List (List ℕ)) (r : Row) : Type 0 where
  pub node : List ℕ
  pub kind : List ℕ
  pub threshold : List ℕ
  pub set1 : List ℕ
  pub set2 : List ℕ
  pub set3 : List ℕ
  pub set4 : List ℕ
  pub seven : values ≡ node ∷ kind ∷ threshold ∷ set1 ∷ set2 ∷ set3 ∷ set4 ∷ []
  pub is_node : number_of node ≡ some k
  pub is_kind : number_of kind ≡ some r.kind
  pub is_threshold : number_of threshold ≡ some r.threshold
  pub is_first : set_in set1 ≡ some (num r.first)
  pub is_second : set_in set2 ≡ some (num r.second)
  pub is_third : set_in set3 ≡ some (num r.third)
  pub is_fourth : set_in set4 ≡ some (num r.fourth)

-- the records of the nodes from k on
abbrev pub RowsSay : ℕ → List (List (List ℕ)) → List Row → Type 0
RowsSay k [] [] = Unit {0}
RowsSay k [] (r ∷ rs) = ⊥
RowsSay k (vs ∷ records) [] = ⊥
RowsSay k (vs ∷ records) (r ∷ rs) = RowSays k vs r × RowsSay (suc k) records rs

-- under the header, every row
abbrev pub IsFile : List ℕ → List Row → Type 0
IsFile bytes rs = (records : List (List (List ℕ))) × FileSays bytes (headings ∷ records) × RowsSay 0 records rs

-- ---- the statement: a file is accepted, with these rows, exactly if it is one by the grammar
abbrev pub ByGrammar : Type 0
ByGrammar = (bytes : List ℕ) (rs : List Row) → (meant_by bytes ≡ Rows rs) ↔ IsFile bytes rs

-- ---- and which line is the first that breaks the rules: those before it, each with its end, are a file by the grammar, and with it they aren't
abbrev pub FirstBroken : Type 0
FirstBroken = (bytes : List ℕ) (line : ℕ) → meant_by bytes ≡ Broken line
    → ((line ≡ 1) ⊎ ((rs : List Row) × IsFile (ended (take (line - 1) (lines_of bytes))) rs)) × ((rs : List Row) → IsFile (ended (take line (lines_of bytes))) rs → ⊥)
