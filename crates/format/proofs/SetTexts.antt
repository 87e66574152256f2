-- A set that is written is read as itself, and one that was read, with no zeros in front, is written back. Assumes nothing.
use mathlib.Core.Path.{◌≡◌, refl, sym, ap, ap₂, ◌∙◌}
use mathlib.Core.Bool.{true, false, not, ◌||◌}
use mathlib.Core.List.Memᴰ
use mathlib.Core.List.{List, [], ◌∷◌, map, Memᴰ}
use mathlib.Core.List.Memᴰ.{head as here}
use mathlib.Core.List.Memᴰ.{tail as there}
use mathlib.Core.Option.{Option, none, some, none-ne-some, some-injective}
use Prim.Native.Nat.{ℕ, ◌<◌}
use native.Mathlib.Nat.{not-suc-le-zero}
use native.Mathlib.Omega.{arith}
use lib.Dec.{leb, eqb}
use lib.ListN.{length, length-append}
use borrow.Author.Tests.{lt-leb, not-false}
use Rattle.lemmas.specs.Lists.{any_of, ascending}
use Rattle.lemmas.proofs.Cases.{at_false}
use Rattle.lemmas.proofs.Tests.{or_left_false}
use Rattle.lemmas.proofs.Any.{any_none}
use Rattle.lemmas.proofs.Ascending.{ascending_test, test_ascending}
use Rattle.nodes.specs.Sets.{In, members, set_of}
use Rattle.nodes.specs.Words.{places}
use Rattle.nodes.proofs.Members.{members_in, members_ascending, members_list, set_members}
use Rattle.text.specs.Words.{decimal}
use Rattle.text.specs.Digits.{is_digit}
use Rattle.format.specs.Cut.{space, pieces, behind, joined}
use Rattle.format.specs.Fields.{no_digit, number_of, in_front, numbers_of, members_of, no_set, set_of_these, set_in}
use Rattle.format.specs.Written.{set_text, zero_in_front}
use Rattle.format.proofs.Choices.{some_unless}
use Rattle.format.proofs.Joining.{Free, joined_pieces, pieces_alone, pieces_joined, joined_free}
use Rattle.format.proofs.Numbers.{decimal_digits, decimal_some, decimal_no_zero, digits_free, number_read, number_back}

-- no piece of a field, cut at spaces, has a zero in front
abbrev pub Zeroless : List ℕ → Type 0
Zeroless field = (w : List ℕ) → Memᴰ w (pieces space field) → zero_in_front w ≡ false

-- ---- the texts of numbers have digits only
decimals_free : (c : ℕ) (ms : List ℕ) → no_digit c ≡ true → Free (eqb c) (map decimal ms)
decimals_free c [] e = tt
decimals_free c (m ∷ ms) e = (digits_free c (decimal m) e (decimal_digits m), decimals_free c ms e)

pub set_free : (c s : ℕ) → no_digit c ≡ true → eqb c space ≡ false → any_of (eqb c) (set_text s) ≡ false
unfolding set_text
set_free c s e f = joined_free (eqb c) space (map decimal (members s)) f (decimals_free c (members s) e)

-- ---- members that are written are read
numbers_read_lem : (ms : List ℕ) → ((m : ℕ) → Memᴰ m ms → m < places) → numbers_of (map decimal ms) ≡ some ms
unfolding numbers_of
numbers_read_lem [] h = refl
numbers_read_lem (m ∷ ms) h = let k = h m (here refl) in ap₂ in_front (number_read m (omega arith)) (numbers_read_lem ms (λ x i. h x (there i)))

some_members : (w : List ℕ) → 0 < length w → members_of w ≡ numbers_of (pieces space w)
unfolding members_of
some_members [] h = absurd (not-suc-le-zero h)
some_members (b ∷ w) h = refl

members_read : (ms : List ℕ) → ((m : ℕ) → Memᴰ m ms → m < places) → members_of (joined space (map decimal ms)) ≡ some ms
unfolding members_of joined no_digit is_digit
members_read [] h = refl
members_read (m ∷ ms) h =
    some_members (joined space (map decimal (m ∷ ms))) (omega (arith, decimal_some m, length-append (decimal m) (behind space (map decimal ms))))
    ∙ ap numbers_of (pieces_joined space (decimal m) (map decimal ms) (decimals_free space (m ∷ ms) refl))
    ∙ numbers_read_lem (m ∷ ms) h

-- Law: a set that is written is read as itself.
pub set_read : (s : ℕ) → ((k : ℕ) → In k s → k < places) → set_in (set_text s) ≡ some s
unfolding set_in set_text no_set
set_read s h =
    let small : (k : ℕ) → Memᴰ k (members s) → k < places = λ k m. h k ((members_in s k).0 m) in
    ap set_of_these (members_read (members s) small)
    ∙ sym
    (at_false none
    (ap₂ ◌||◌ (ap not (ascending_test (members s) (members_ascending s))) ((any_none (leb places) (members s)).1 (λ k m. lt-leb places k (small k m))))
    (ap some (sym (set_members s))))

-- ---- and back
pub in_front_lem : (o : Option ℕ) (q : Option (List ℕ)) (ms : List ℕ) → in_front o q ≡ some ms
    → (m : ℕ) × (r : List ℕ) × (o ≡ some m) × (q ≡ some r) × (ms ≡ m ∷ r)
in_front_lem none q ms e = absurd (none-ne-some ms e)
in_front_lem (some m) none ms e = absurd (none-ne-some ms e)
in_front_lem (some m) (some r) ms e = (m, r, refl, refl, sym (some-injective (m ∷ r) ms e))

numbers_back : (ws : List (List ℕ)) (ms : List ℕ) → numbers_of ws ≡ some ms → ((w : List ℕ) → Memᴰ w ws → zero_in_front w ≡ false) → ws ≡ map decimal ms
unfolding numbers_of
numbers_back [] ms e z = ap (map decimal) (some-injective [] ms e)
numbers_back (w ∷ ws) ms e z =
    let q = in_front_lem (number_of w) (numbers_of ws) ms e in
    ap₂ (λ (x : List ℕ) (xs : List (List ℕ)). x ∷ xs) (number_back w q.0 q.2 (z w (here refl))) (numbers_back ws q.1 q.3 (λ x i. z x (there i)))
    ∙ ap (map decimal) (sym q.4)

members_back : (w ms : List ℕ) → members_of w ≡ some ms → Zeroless w → w ≡ joined space (map decimal ms)
unfolding members_of joined
members_back [] ms e z = ap (λ (x : List ℕ). joined space (map decimal x)) (some-injective [] ms e)
members_back (b ∷ w) ms e z = sym (joined_pieces space (b ∷ w)) ∙ ap (joined space) (numbers_back (pieces space (b ∷ w)) ms e z)

pub these : (o : Option (List ℕ)) (s : ℕ) → set_of_these o ≡ some s → (ms : List ℕ) × (o ≡ some ms) × (no_set ms ≡ false) × (set_of ms ≡ s)
these none s e = absurd (none-ne-some s e)
these (some ms) s e = let q = some_unless (no_set ms) (set_of ms) s e in (ms, refl, q.0, q.1)

-- Law: a set that was read, with no zeros in front, is written so.
pub set_back : (w : List ℕ) (s : ℕ) → set_in w ≡ some s → Zeroless w → w ≡ set_text s
unfolding set_in set_text no_set
set_back w s e z =
    let q = these (members_of w) s e in
    let ms = q.0 in
    let up = test_ascending ms (not-false (ascending ms) (or_left_false (not (ascending ms)) (any_of (leb places) ms) q.2)) in
    members_back w ms q.1 z ∙ ap (λ (x : List ℕ). joined space (map decimal x)) (sym (ap members (sym q.3) ∙ members_list ms up))

-- ---- what is written has no zeros in front
pub alone_zeroless : (w : List ℕ) → any_of (eqb space) w ≡ false → zero_in_front w ≡ false → Zeroless w
alone_zeroless w e z v m = ap zero_in_front (Memᴰ.eq_of_singleton (rw (pieces_alone space w e) at m)) ∙ z

pub number_zeroless : (n : ℕ) → Zeroless (decimal n)
unfolding no_digit is_digit
number_zeroless n = alone_zeroless (decimal n) (digits_free space (decimal n) refl (decimal_digits n)) (decimal_no_zero n)

decimals_zeroless : (ms : List ℕ) (w : List ℕ) → Memᴰ w (map decimal ms) → zero_in_front w ≡ false
decimals_zeroless [] w m = absurd (elim m [ ])
decimals_zeroless (n ∷ ms) w (here e) = ap zero_in_front e ∙ decimal_no_zero n
decimals_zeroless (n ∷ ms) w (there m) = decimals_zeroless ms w m

members_zeroless : (ms : List ℕ) → Zeroless (joined space (map decimal ms))
unfolding joined zero_in_front no_digit is_digit
members_zeroless [] = alone_zeroless [] refl refl
members_zeroless (n ∷ ms) = λ w m.
    decimals_zeroless (n ∷ ms) w (rw (pieces_joined space (decimal n) (map decimal ms) (decimals_free space (n ∷ ms) refl)) at m)

pub set_zeroless : (s : ℕ) → Zeroless (set_text s)
unfolding set_text
set_zeroless s = members_zeroless (members s)
