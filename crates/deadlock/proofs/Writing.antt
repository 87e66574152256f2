-- Lent bytes as a walk over the members of a set leaves them: those passed stand in front, the rest is as found. Assumes nothing.
use mathlib.Core.Path.{◌≡◌, refl, sym, ap, ap₂, ◌∙◌}
use mathlib.Core.List.Memᴰ
use mathlib.Core.List.{List, [], ◌∷◌, ◌++◌, append_assoc, append-nil}
use mathlib.Core.List.Memᴰ.{head as here}
use Prim.Native.Nat.{ℕ, suc, ◌+◌, ◌≤◌, ◌<◌}
use native.Mathlib.Numerals.{add-one}
use native.Mathlib.Omega.{arith}
use lib.ListN.{length, get_or, drop, set, length-append}
use lib.Seq.{drop-cons, set_at}
use Rattle.nodes.specs.Sets.{Inside, below, members, size}
use Rattle.nodes.proofs.Inside.{inside_member}
use Rattle.nodes.proofs.Members.{members_in}
use Rattle.nodes.proofs.Operations.{in_below}
use Rattle.nodes.proofs.Size.{size_members}

-- s is the set, at how many bytes were written, and come the members still to come
pub record Wrote (s at : ℕ) (found left come : List ℕ) : Type 0 where
  pub passed : List ℕ
  pub order : members s ≡ passed ++ come
  pub count : at ≡ length passed
  pub bytes : left ≡ passed ++ drop at found

pub wrote_none : (s : ℕ) (found : List ℕ) {come : List ℕ} → come ≡ members s → Wrote s 0 found found come
wrote_none s found e = record { passed = []; order = sym e; count = refl; bytes = refl }

module _ (s at : ℕ) (found left come : List ℕ) (w : Wrote s at found left come) where
  -- the next one
  module _ {k : ℕ} {later : List ℕ} (e : come ≡ k ∷ later) where
    pub wrote_below : (n : ℕ) → Inside s (below n) → k < n
    wrote_below n i = (in_below n k).0 (inside_member _ _ k i ((members_in s k).0 (rw (w.order, e) (Memᴰ.append_right w.passed (here refl)))))

    pub wrote_room : (n : ℕ) → size s ≤ n → at < n
    wrote_room n h = omega (arith, w.count, size_members s, ap length w.order, length-append w.passed come, ap length e)

    pub wrote_one : at < length found → {at' : ℕ} {left' : List ℕ} → left' ≡ set left at k → at' ≡ at + 1 → Wrote s at' found left' later
    wrote_one room p q = record {
      passed = w.passed ++ k ∷ [];
      order = w.order ∙ ap (λ (x : List ℕ). w.passed ++ x) e ∙ sym (append_assoc w.passed (k ∷ []) later);
      count = q ∙ ap (λ (x : ℕ). x + 1) w.count ∙ sym (length-append w.passed (k ∷ []));
      bytes =
          p ∙ ap (λ (x : List ℕ). set x at k) (w.bytes ∙ ap (λ (x : List ℕ). w.passed ++ x) (drop-cons found at 0 room))
          ∙ set_at w.passed (get_or found at 0) (drop (suc at) found) k at (sym w.count)
          ∙ sym (append_assoc w.passed (k ∷ []) (drop (suc at) found))
          ∙ ap (λ (y : ℕ). (w.passed ++ k ∷ []) ++ drop y found) (sym (q ∙ add-one at));
    }

  pub wrote_all : come ≡ [] → (at ≡ size s) × (left ≡ members s ++ drop (size s) found)
  wrote_all e =
      let all : members s ≡ w.passed = w.order ∙ ap (λ (x : List ℕ). w.passed ++ x) e ∙ append-nil w.passed in
      let count : at ≡ size s = w.count ∙ ap length (sym all) ∙ sym (size_members s) in
      (count, w.bytes ∙ ap₂ (λ (x : List ℕ) (y : ℕ). x ++ drop y found) (sym all) count)
