-- The laws of writing into lent bytes. Assumes nothing.
use mathlib.Core.Path.{◌≡◌, refl, sym, ap, ap₂, ◌∙◌}
use mathlib.Core.Bool.{true, false}
use mathlib.Core.Logic.{⊎_elim}
use mathlib.Core.List.{List, [], ◌∷◌, ◌++◌, append_assoc}
use Prim.Native.Nat.{ℕ, suc, ◌+◌, ◌≤◌, ◌<◌}
use native.Mathlib.Omega.{arith}
use lib.ListN.{length, drop, set, length-set, length-append}
use lib.Seq.{set_at}
use lib.Dec.{ltb}
use borrow.Author.Tests.{lt-ltb, le-ltb, ltb-true}
use Rattle.lemmas.proofs.Cases.{at_true, at_false, both_branches}
use Rattle.lemmas.proofs.Tests.{true_or_false}
use Rattle.std.specs.Borrow.{MutBor}
use Rattle.text.specs.declared.Text.{Text as Lent}
use Rattle.text.specs.Text.{Text, text, one, write, held, Fresh, Wrote}

-- ---- one byte
pub one_placed : (places : List ℕ) (at b : ℕ) → at < length places → text (set places at b) (at + 1) ≡ write (text places at) (b ∷ [])
unfolding write one
one_placed places at b h = at_true (text places at) (lt-ltb at (length places) h) refl

pub one_lost : (places : List ℕ) (at b : ℕ) → length places ≤ at → text places at ≡ write (text places at) (b ∷ [])
unfolding write one
one_lost places at b h = at_false (text (set places at b) (at + 1)) (le-ltb at (length places) h) refl

one_length : (t : Text) (b : ℕ) → length (one t b).places ≡ length t.places
unfolding one
one_length t b =
    both_branches (λ (x : Text). length x.places ≡ length t.places) (ltb t.end (length t.places))
    {x = text (set t.places t.end b) (t.end + 1)}
    {y = t}
    (length-set t.places t.end b)
    refl

one_inside : (t : Text) (b : ℕ) → t.end ≤ length t.places → (one t b).end ≤ length (one t b).places
unfolding one
one_inside t b h =
    ⊎_elim
    (λ (e : ltb t.end (length t.places) ≡ true). rw e (let q = ltb-true t.end (length t.places) e in omega (arith, length-set t.places t.end b)))
    (λ (e : ltb t.end (length t.places) ≡ false). rw e h)
    (true_or_false (ltb t.end (length t.places)))

-- ---- bytes

-- bytes and then bytes are their list
pub write_append : (t : Text) (xs ys : List ℕ) → write (write t xs) ys ≡ write t (xs ++ ys)
unfolding write
write_append t [] ys = refl
write_append t (x ∷ xs) ys = write_append (one t x) xs ys

-- there are as many places as before
pub write_length : (t : Text) (bs : List ℕ) → length (write t bs).places ≡ length t.places
unfolding write
write_length t [] = refl
write_length t (b ∷ bs) = write_length (one t b) bs ∙ one_length t b

-- what is written ends where there are places, if it did before
pub write_inside : (t : Text) (bs : List ℕ) → t.end ≤ length t.places → (write t bs).end ≤ length t.places
unfolding write
write_inside t [] h = h
write_inside t (b ∷ bs) h =
    let i = write_inside (one t b) bs (one_inside t b h) in
    omega (arith, one_length t b)

-- one call after the other
pub write_both : (t : Text) {u v : Text} (xs ys : List ℕ) → u ≡ write t xs → v ≡ write u ys → v ≡ write t (xs ++ ys)
write_both t xs ys e f = f ∙ ap (λ (x : Text). write x ys) e ∙ write_append t xs ys

-- where there is a place for each, they stand one after the other behind what was written, and the rest is as found
write_behind : (before rest bs : List ℕ) → length bs ≤ length rest
    → write (text (before ++ rest) (length before)) bs ≡ text (before ++ (bs ++ drop (length bs) rest)) (length before + length bs)
unfolding write one
write_behind before rest [] h = ap (text (before ++ rest)) (let q : length before ≡ length before + 0 = omega arith in q)
write_behind before [] (b ∷ bs) h = absurd (omega arith)
write_behind before (a ∷ rest) (b ∷ bs) h =
    let more : length (before ++ b ∷ []) ≡ length before + 1 = length-append before (b ∷ []) in
    ap (λ (t : Text). write t bs)
    (sym (one_placed (before ++ a ∷ rest) (length before) b (omega (arith, length-append before (a ∷ rest))))
    ∙ ap₂ text (set_at before a rest b (length before) refl ∙ sym (append_assoc before (b ∷ []) rest)) (sym more))
    ∙ write_behind (before ++ b ∷ []) rest bs (omega arith)
    ∙ ap₂ text
    (append_assoc before (b ∷ []) (bs ++ drop (length bs) rest))
    (let q : length (before ++ b ∷ []) + length bs ≡ length before + suc (length bs) = omega arith in q)

-- from the first place on
pub write_fits : (lent bs : List ℕ) → length bs ≤ length lent
    → write (text lent 0) bs ≡ text (bs ++ drop (length bs) lent) (length bs)
write_fits lent bs h = write_behind [] lent bs h ∙ ap (text (bs ++ drop (length bs) lent)) (let q : 0 + length bs ≡ length bs = omega arith in q)

-- and what was written ends within the places
pub written_end : (lent bs : List ℕ) {places : List ℕ} {end : ℕ} → text places end ≡ write (text lent 0) bs → end ≤ length places
written_end lent bs e =
    let i = write_inside (text lent 0) bs (omega arith) in
    omega (arith, ap (λ (t : Text). t.end) e, ap (λ (t : Text). length t.places) e, write_length (text lent 0) bs)

-- ---- the code's struct
pub wrote_none : (a : Lent) → Wrote a a []
unfolding write
wrote_none a = record { same_room = refl; written = refl }

pub wrote_as : {a b : Lent} {xs ys : List ℕ} → xs ≡ ys → Wrote a b xs → Wrote a b ys
wrote_as e h = rw e at h

-- one call after the other
pub wrote_then : {a b c : Lent} {xs ys : List ℕ} → Wrote a b xs → Wrote b c ys → Wrote a c (xs ++ ys)
wrote_then {xs = xs} {ys = ys} h k = record {
  same_room = k.same_room ∙ h.same_room;
  written = write_both _ xs ys h.written k.written;
}

-- who lent the bytes finds in them what was written
pub given_back : {r : MutBor (List ℕ)} {a b : Lent} {left bs : List ℕ} → Fresh r a → Wrote a b bs → (r.ghost_name ≡ b.room.ghost_name → left ≡ b.room.now)
    → text left b.end ≡ write (text r.now 0) bs
given_back {b = b} {bs = bs} f h k =
    ap (λ (l : List ℕ). text l b.end) (k (sym (h.same_room ∙ f.same_room))) ∙ h.written ∙ ap (λ (t : Text). write t bs) f.none_written

-- ---- a loop: of all that is to be written, this is left
pub record Left (before now : Lent) (rest all : List ℕ) : Type 0 where
  pub same_room : now.room.ghost_name ≡ before.room.ghost_name
  pub as_all : write (held now) rest ≡ write (held before) all

pub left_all : (a : Lent) (all : List ℕ) → Left a a all all
left_all a all = record { same_room = refl; as_all = refl }

pub left_next : {a b c : Lent} {xs rest more all : List ℕ} → Left a b more all → Wrote b c xs → more ≡ xs ++ rest → Left a c rest all
left_next {xs = xs} {rest = rest} h k e = record {
  same_room = k.same_room ∙ h.same_room;
  as_all = write_both _ xs rest k.written refl ∙ ap (write _) (sym e) ∙ h.as_all;
}

pub left_none : {a b : Lent} {rest all : List ℕ} → Left a b rest all → rest ≡ [] → Wrote a b all
unfolding write
left_none h e = record { same_room = h.same_room; written = sym (ap (write _) e) ∙ h.as_all }
