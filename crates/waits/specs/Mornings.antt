-- The graphs of the mornings that the paper marks with *, as rows. It counts nodes from 1, and a row is one less. Assumes nothing.
use Rattle.std.specs.Prelude.{List, [], ◌∷◌, ℕ}

-- 1: f1 = 4 ∨ 2, f2 = 3 ∧ 4 ∧ 5, f3 = 2 ∨ (6 ∧ 7), f4 = 7, f5 = 1 ∨ 7, f6 active, f7 = 6
abbrev pub first_rows : List ℕ
first_rows =
    2 ∷ 0 ∷ 0b000_1000 ∷ 0b000_0010 ∷ 0 ∷ 0
    ∷ 2 ∷ 0 ∷ 0b001_1100 ∷ 0 ∷ 0 ∷ 0
    ∷ 2 ∷ 0 ∷ 0b000_0010 ∷ 0b110_0000 ∷ 0 ∷ 0
    ∷ 1 ∷ 1 ∷ 0b100_0000 ∷ 0 ∷ 0 ∷ 0
    ∷ 2 ∷ 0 ∷ 0b000_0001 ∷ 0b100_0000 ∷ 0 ∷ 0
    ∷ 0 ∷ 0 ∷ 0 ∷ 0 ∷ 0 ∷ 0
    ∷ 1 ∷ 1 ∷ 0b010_0000 ∷ 0 ∷ 0 ∷ 0
    ∷ []

-- 2: F1 = (2 ∧ 3) ∨ 4, F3 = (5 ∧ 6) ∨ 7, F4 = 8 ∧ 9, F5 = 1, F7 = 4, F8 = 7, F9 = (8 ∧ 10) ∨ 1; 2, 6 and 10 active
abbrev pub second_rows : List ℕ
second_rows =
    2 ∷ 0 ∷ 0b00_0000_0110 ∷ 0b00_0000_1000 ∷ 0 ∷ 0
    ∷ 0 ∷ 0 ∷ 0 ∷ 0 ∷ 0 ∷ 0
    ∷ 2 ∷ 0 ∷ 0b00_0011_0000 ∷ 0b00_0100_0000 ∷ 0 ∷ 0
    ∷ 2 ∷ 0 ∷ 0b01_1000_0000 ∷ 0 ∷ 0 ∷ 0
    ∷ 1 ∷ 1 ∷ 0b00_0000_0001 ∷ 0 ∷ 0 ∷ 0
    ∷ 0 ∷ 0 ∷ 0 ∷ 0 ∷ 0 ∷ 0
    ∷ 1 ∷ 1 ∷ 0b00_0000_1000 ∷ 0 ∷ 0 ∷ 0
    ∷ 1 ∷ 1 ∷ 0b00_0100_0000 ∷ 0 ∷ 0 ∷ 0
    ∷ 2 ∷ 0 ∷ 0b10_1000_0000 ∷ 0b00_0000_0001 ∷ 0 ∷ 0
    ∷ 0 ∷ 0 ∷ 0 ∷ 0 ∷ 0 ∷ 0
    ∷ []

-- 4: 1 = 2, 2 = 1
abbrev pub fourth_rows : List ℕ
fourth_rows = 1 ∷ 1 ∷ 0b10 ∷ 0 ∷ 0 ∷ 0 ∷ 1 ∷ 1 ∷ 0b01 ∷ 0 ∷ 0 ∷ 0 ∷ []

-- 5: one active node
abbrev pub fifth_rows : List ℕ
fifth_rows = 0 ∷ 0 ∷ 0 ∷ 0 ∷ 0 ∷ 0 ∷ []

-- 6: 1 = 2, 2 active
abbrev pub sixth_rows : List ℕ
sixth_rows = 1 ∷ 1 ∷ 0b10 ∷ 0 ∷ 0 ∷ 0 ∷ 0 ∷ 0 ∷ 0 ∷ 0 ∷ 0 ∷ 0 ∷ []

-- 9: 1 needs p of {2, 3, 4}; 2 active, 3 = 1, 4 = 1
abbrev pub ninth_rows : ℕ → List ℕ
ninth_rows p =
    1 ∷ p ∷ 0b1110 ∷ 0 ∷ 0 ∷ 0
    ∷ 0 ∷ 0 ∷ 0 ∷ 0 ∷ 0 ∷ 0
    ∷ 1 ∷ 1 ∷ 0b0001 ∷ 0 ∷ 0 ∷ 0
    ∷ 1 ∷ 1 ∷ 0b0001 ∷ 0 ∷ 0 ∷ 0
    ∷ []

-- 10: 1 = 2 ∧ 4, 2 = 3, 3 = 2, 4 = 1 ∨ 5, 5 active
abbrev pub tenth_rows : List ℕ
tenth_rows =
    2 ∷ 0 ∷ 0b0_1010 ∷ 0 ∷ 0 ∷ 0
    ∷ 1 ∷ 1 ∷ 0b0_0100 ∷ 0 ∷ 0 ∷ 0
    ∷ 1 ∷ 1 ∷ 0b0_0010 ∷ 0 ∷ 0 ∷ 0
    ∷ 2 ∷ 0 ∷ 0b0_0001 ∷ 0b1_0000 ∷ 0 ∷ 0
    ∷ 0 ∷ 0 ∷ 0 ∷ 0 ∷ 0 ∷ 0
    ∷ []
