-- The messages of a step as numbers, kind after kind. Assumes nothing.
use mathlib.Core.Path.{◌≡◌, refl, sym, ap, ◌∙◌}
use mathlib.Core.List.{List, [], ◌∷◌, ◌++◌, map, map-append}
use Prim.Native.Nat.{ℕ, ◌+◌, ◌≤◌}
use native.Mathlib.Omega.{arith}
use lib.ListN.{length, length-map}
use lib.Seq.{sets}
use Rattle.lemmas.proofs.Stores.{sets_append}
use Rattle.nodes.specs.Sets.{members, size}
use Rattle.records.specs.declared.messages.Kind.{Kind}
use Rattle.records.specs.declared.messages.Kind.TheVariants.{Notify, Grant, Ack, Done}
use Rattle.records.specs.Messages.{Letter, kind_number}
use Rattle.step.specs.Step.{Receivers}
use Rattle.step.specs.Letters.{letter, letters, letters_of, how_many}
use Rattle.step.proofs.Letters.{letters_length}
use Rattle.lent.specs.Coded.{base_of, number_of}
use Rattle.lent.proofs.Places.{numbers}

pub kind_number_le : (kind : Kind) → kind_number kind ≤ 3
kind_number_le Notify = omega arith
kind_number_le Grant = omega arith
kind_number_le Ack = omega arith
kind_number_le Done = omega arith

each : (kind : Kind) (from round : ℕ) (l : List ℕ)
    → map (λ k. base_of kind from round + k) l ≡ map number_of (map (λ k. letter kind from k round) l)
unfolding number_of
each kind from round [] = refl
each kind from round (k ∷ l) = ap (λ (x : List ℕ). (base_of kind from round + k) ∷ x) (each kind from round l)

pub letters_numbers : (kind : Kind) (from round s : ℕ) → numbers (base_of kind from round) s ≡ map number_of (letters kind from round s)
letters_numbers kind from round s = each kind from round (members s)

-- messages of one kind written from a place on, and where the next goes
abbrev pub Wrote : Kind → ℕ → ℕ → ℕ → List ℕ → ℕ → List ℕ → ℕ → Type 0
Wrote kind from round s found at now next = (next ≡ at + size s) × (now ≡ sets found at (map number_of (letters kind from round s)))

then_more : (xs ys : List Letter) (found now : List ℕ) (at next : ℕ) → next ≡ at + length xs → now ≡ sets found at (map number_of xs)
    → sets now next (map number_of ys) ≡ sets found at (map number_of (xs ++ ys))
then_more xs ys found now at next e f =
    (λ i. sets (f i) ((e ∙ ap (λ (n : ℕ). at + n) (sym (length-map xs number_of))) i) (map number_of ys))
    ∙ sets_append (map number_of xs) (map number_of ys) found at
    ∙ ap (sets found at) (sym (map-append number_of xs ys))

pub wrote_all : (from round : ℕ) (r : Receivers) (m₀ m₁ m₂ m₃ m₄ : List ℕ) (a₀ a₁ a₂ a₃ a₄ : ℕ)
    → Wrote Notify from round r.notify m₀ a₀ m₁ a₁ → Wrote Grant from round r.grant m₁ a₁ m₂ a₂
    → Wrote Ack from round r.ack m₂ a₂ m₃ a₃ → Wrote Done from round r.done m₃ a₃ m₄ a₄
    → (a₄ ≡ a₀ + how_many r) × (m₄ ≡ sets m₀ a₀ (map number_of (letters_of from round r)))
unfolding letters_of
wrote_all from round r m₀ m₁ m₂ m₃ m₄ a₀ a₁ a₂ a₃ a₄ n g a d = (
  omega (arith, n.0, g.0, a.0, d.0),
  d.1
      ∙ then_more (letters Ack from round r.ack) (letters Done from round r.done) m₂ m₃ a₂ a₃ (more Ack r.ack a₂ a.0) a.1
      ∙ then_more (letters Grant from round r.grant) _ m₁ m₂ a₁ a₂ (more Grant r.grant a₁ g.0) g.1
      ∙ then_more (letters Notify from round r.notify) _ m₀ m₁ a₀ a₁ (more Notify r.notify a₀ n.0) n.1,
)
  where
    more : (kind : Kind) (s at : ℕ) {next : ℕ} → next ≡ at + size s → next ≡ at + length (letters kind from round s)
    more kind s at e = e ∙ ap (λ (x : ℕ). at + x) (sym (letters_length kind from round s))
