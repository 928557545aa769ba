-- The quantizer of IMA ADPCM (IMA Digital Audio Focus and Technical Working Groups, "Recommended Practices for
-- Enhancing Digital Audio Compatibility in Multimedia Systems", revision 3.00).
use Rattle.std.specs.Prelude.{ℕ, ◌+◌, ◌*◌, ◌/◌, ◌%◌, ◌^◌, min, List, [], ◌∷◌, ℤ, pos, negsuc, ◌+ℤ◌, slice_index, slice_index_or}

-- the step sizes, by index
unfoldable pub step_sizes : List ℕ
step_sizes =
    7 ∷ 8 ∷ 9 ∷ 10 ∷ 11 ∷ 12 ∷ 13 ∷ 14 ∷ 16 ∷ 17 ∷ 19 ∷ 21 ∷
    23 ∷ 25 ∷ 28 ∷ 31 ∷ 34 ∷ 37 ∷ 41 ∷ 45 ∷ 50 ∷ 55 ∷ 60 ∷ 66 ∷
    73 ∷ 80 ∷ 88 ∷ 97 ∷ 107 ∷ 118 ∷ 130 ∷ 143 ∷ 157 ∷ 173 ∷ 190 ∷ 209 ∷
    230 ∷ 253 ∷ 279 ∷ 307 ∷ 337 ∷ 371 ∷ 408 ∷ 449 ∷ 494 ∷ 544 ∷ 598 ∷ 658 ∷
    724 ∷ 796 ∷ 876 ∷ 963 ∷ 1060 ∷ 1166 ∷ 1282 ∷ 1411 ∷ 1552 ∷ 1707 ∷ 1878 ∷ 2066 ∷
    2272 ∷ 2499 ∷ 2749 ∷ 3024 ∷ 3327 ∷ 3660 ∷ 4026 ∷ 4428 ∷ 4871 ∷ 5358 ∷ 5894 ∷ 6484 ∷
    7132 ∷ 7845 ∷ 8630 ∷ 9493 ∷ 10442 ∷ 11487 ∷ 12635 ∷ 13899 ∷ 15289 ∷ 16818 ∷ 18500 ∷ 20350 ∷
    22385 ∷ 24623 ∷ 27086 ∷ 29794 ∷ 32767 ∷ []

-- the last index of the step sizes
abbrev pub last_index : ℕ
last_index = 88

-- how far the low three bits of a code move the index; `negsuc 0` is -1
unfoldable pub index_changes : List ℤ
index_changes =
    negsuc 0 ∷ negsuc 0 ∷ negsuc 0 ∷ negsuc 0 ∷ pos 2 ∷ pos 4 ∷ pos 6 ∷ pos 8 ∷ []

-- bit k of a code, 0 or 1
abbrev pub code_bit : ℕ → ℕ → ℕ
code_bit code k = code / 2 ^ k % 2

abbrev pub step_size : ℕ → ℕ
step_size index = slice_index step_sizes index

-- an eighth of the step, a whole step for bit 2, a half for bit 1 and a quarter for bit 0, each rounded down
abbrev pub difference : ℕ → ℕ → ℕ
difference step code =
    step / 8 + code_bit code 2 * step + code_bit code 1 * (step / 2) + code_bit code 0 * (step / 4)

-- the index of the table that is nearest to z
abbrev pub nearest_index : ℤ → ℕ
nearest_index (pos n) = min n last_index
nearest_index (negsuc n) = 0

abbrev pub index_change : ℕ → ℤ
index_change code = slice_index_or index_changes (code % 8) (pos 0)

abbrev pub next_index : ℕ → ℕ → ℕ
next_index index code = nearest_index (pos index +ℤ index_change code)
