-- What an answer tells of the piece that was read. Assumes nothing.
use mathlib.Core.Path.{◌≡◌, refl, sym, ap, ◌∙◌}
use mathlib.Core.Option.{Option as Maybe, none, some}
use Prim.Native.Nat.{ℕ}
use Rattle.std.specs.Prelude.{Some, None}
use Rattle.nodes.specs.declared.Set.{Set}
use Rattle.nodes.specs.Words.{num, as_set}
use Rattle.nodes.proofs.Words.{num_as}
use Rattle.fields.specs.Answers.{numbered, gathered}

pub none_not : {m : ℕ} → None ≡ Some m → ⊥
none_not e = cc

pub same_number : {m n : ℕ} → Some m ≡ Some n → m ≡ n
same_number e = cc

pub told_none : (o : Maybe ℕ) → None ≡ numbered o → o ≡ none
unfolding numbered
told_none none e = refl
told_none (some m) e = absurd cc

pub told_number : {m : ℕ} (o : Maybe ℕ) → Some m ≡ numbered o → o ≡ some m
unfolding numbered
told_number none e = absurd cc
told_number (some n) e = cc

pub told_no_set : (o : Maybe ℕ) → None ≡ gathered o → o ≡ none
unfolding gathered
told_no_set none e = refl
told_no_set (some s) e = absurd cc

pub told_set : {s : Set} (o : Maybe ℕ) → Some s ≡ gathered o → o ≡ some (num s)
unfolding gathered
told_set none e = absurd cc
told_set {s} (some n) e = ap some (sym (num_as n) ∙ ap num (let q : as_set n ≡ s = cc in q))
