-- Any two results that the promise allows are equal, lent bytes included. Assumes nothing.
use mathlib.Core.Path.{◌≡◌, ap}
use mathlib.Core.List.{List}
use Prim.Native.Nat.{ℕ}
use Rattle.lemmas.proofs.Cases.{only_one}
use Rattle.text.specs.Text.{Text, text, write}
use Rattle.reasons.specs.Reasons.{reason_of}

pub one_reason : (bytes found left right : List ℕ) (x y : ℕ) → text left x ≡ write (text found 0) (reason_of bytes) → text right y ≡ write (text found 0) (reason_of bytes)
    → (x ≡ y) × (left ≡ right)
one_reason bytes found left right x y p q = (ap (λ (t : Text). t.end) (only_one p q), ap (λ (t : Text). t.places) (only_one p q))
