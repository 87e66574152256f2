-- Lent places as a walk over the members of a set leaves them, each member written as one number. Assumes nothing.
use mathlib.Core.Path.{◌≡◌, refl, sym, ap, ◌∙◌}
use mathlib.Core.List.{List, [], ◌∷◌, map, Memᴰ}
use mathlib.Core.List.Memᴰ.{head as here, tail as there}
use Prim.Native.Nat.{ℕ, suc, ◌+◌, ◌≤◌, ◌<◌}
use native.Mathlib.Numerals.{add-one}
use native.Mathlib.Omega.{arith}
use lib.ListN.{length, set, length-set}
use lib.Seq.{sets}
use Rattle.nodes.specs.Sets.{Inside, below, members}
use Rattle.nodes.specs.Words.{places}
use Rattle.nodes.proofs.Operations.{in_below}
use Rattle.nodes.proofs.Inside.{inside_member}
use Rattle.nodes.proofs.Members.{members_in}

-- the members of a set, each with first added
abbrev pub numbers : ℕ → ℕ → List ℕ
numbers first s = map (λ k. first + k) (members s)

-- to are the members and left those still to come; now are the places, which were found so; the next number goes to place
pub record Sending (first at : ℕ) (to found now : List ℕ) (place : ℕ) (left : List ℕ) : Type 0 where
  pub among : (k : ℕ) → Memᴰ k left → k < places
  pub count : place + length left ≡ at + length to
  pub long : length now ≡ length found
  pub list : sets now place (map (λ k. first + k) left) ≡ sets found at (map (λ k. first + k) to)

pub sending_first : (first at to : ℕ) (found : List ℕ) → Inside to (below places) → {left : List ℕ} → left ≡ members to
    → Sending first at (members to) found found at left
sending_first first at to found among e = record {
  among = λ k m. (in_below places k).0 (inside_member to (below places) k among ((members_in to k).0 (rw e at m)));
  count = ap (λ (l : List ℕ). at + length l) e;
  long = refl;
  list = ap (λ (l : List ℕ). sets found at (map (λ k. first + k) l)) e;
}

module _ (first at : ℕ) (to found now : List ℕ) (place : ℕ) (left : List ℕ) (w : Sending first at to found now place left) where
  pub sending_ended : left ≡ [] → (place ≡ at + length to) × (now ≡ sets found at (map (λ k. first + k) to))
  sending_ended none =
      ((let z : length left ≡ 0 = ap length none in omega (arith, w.count)), sym (ap (λ (l : List ℕ). sets now place (map (λ k. first + k) l)) none) ∙ w.list)

  module _ (k : ℕ) (left' : List ℕ) (cut : left ≡ k ∷ left') where
    pub sending_member : k < places
    sending_member = w.among k (rw cut (here refl))

    pub sending_room : at + length to ≤ length found → place < length now
    sending_room h = let l : length left ≡ suc (length left') = ap length cut in omega (arith, w.count, w.long, l)

    pub sending_next : {next : List ℕ} {place' : ℕ} → next ≡ set now place (first + k) → place' ≡ place + 1 → Sending first at to found next place' left'
    sending_next p q = record {
      among = λ j m. w.among j (rw cut (there m));
      count = (let l : length left ≡ suc (length left') = ap length cut in omega (arith, w.count, l, q));
      long = ap length p ∙ length-set now place (first + k) ∙ w.long;
      list =
          (λ i. sets (p i) ((q ∙ add-one place) i) (map (λ j. first + j) left'))
          ∙ sym (ap (λ (l : List ℕ). sets now place (map (λ j. first + j) l)) cut) ∙ w.list;
    }
