-- A set of nodes is a natural number with no width: node k is in s where the binary digit k of s is 1.
-- Every definition computes on numerals of any size. Assumes nothing.
use Rattle.std.specs.Prelude.{◌≡◌, Bool, true, false, List, [], ◌∷◌, ◌++◌, ℕ, zero, suc, ◌-◌, ◌/◌, ◌%◌, ◌^◌, ◌≤◌, leb, eqb, length}
use Rattle.std.specs.Int.Bits.{bit_and, bit_or, bit_xor}

-- of n nodes, numbered from 0, none has this number
unfoldable pub no_node : ℕ → ℕ → Bool
no_node n i = leb n i

-- the digit k of s: 1 where k is in s, 0 where not
unfoldable pub bit : ℕ → ℕ → ℕ
bit s k = s / 2 ^ k % 2

-- k is in s
abbrev pub In : ℕ → ℕ → Type 0
In k s = bit s k ≡ 1

-- the same as a test
unfoldable pub has : ℕ → ℕ → Bool
has s k = eqb (bit s k) 1

-- the members of either; of both; of a and not of b
unfoldable pub union : ℕ → ℕ → ℕ
union a b = bit_or a b

unfoldable pub meet : ℕ → ℕ → ℕ
meet a b = bit_and a b

unfoldable pub minus : ℕ → ℕ → ℕ
minus a b = bit_xor a (meet a b)

-- the set of k alone; s with k
unfoldable pub single : ℕ → ℕ
single k = 2 ^ k

unfoldable pub with : ℕ → ℕ → ℕ
with s k = union s (single k)

-- all nodes below n
unfoldable pub below : ℕ → ℕ
below n = 2 ^ n - 1

-- each member of a is in b: as a test, and as a statement
unfoldable pub inside : ℕ → ℕ → Bool
inside a b = eqb (meet a b) a

abbrev pub Inside : ℕ → ℕ → Type 0
Inside a b = (k : ℕ) → bit a k ≤ bit b k

-- k, if the test says so
abbrev pub only : Bool → ℕ → List ℕ
only true k = k ∷ []
only false k = []

-- The members of s, ascending, each with k added: the lowest digit, then the others with one more. It stops where no digit
-- is left, and f, which only bounds the recursion, may be any number from s on.
unfoldable pub members_from : ℕ → ℕ → ℕ → List ℕ
members_from zero k s = []
members_from (suc f) k zero = []
members_from (suc f) k (suc s) = only (eqb (suc s % 2) 1) k ++ members_from f (suc k) (suc s / 2)

-- the members of s, ascending
unfoldable pub members : ℕ → List ℕ
members s = members_from s 0 s

-- how many members s has
unfoldable pub size : ℕ → ℕ
size s = length (members s)

-- s with k, if the test says so
abbrev pub keep : Bool → ℕ → ℕ → ℕ
keep true k s = with s k
keep false k s = s

-- the set of the nodes below n of which f is true
unfoldable pub gather : (ℕ → Bool) → ℕ → ℕ
gather f zero = 0
gather f (suc n) = keep (f n) n (gather f n)

-- the set of the numbers in a list
unfoldable pub set_of : List ℕ → ℕ
set_of [] = 0
set_of (k ∷ l) = with (set_of l) k
