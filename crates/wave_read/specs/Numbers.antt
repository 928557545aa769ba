-- The little-endian numbers of two, four and eight bytes at a place of a file.
use Rattle.std.specs.Prelude.{ℕ, List, drop}
use Rattle.byteorder.specs.Endian.{little_number}

unfoldable pub u16_at : List ℕ → ℕ → ℕ
u16_at bytes place = little_number 2 (drop place bytes)

unfoldable pub u32_at : List ℕ → ℕ → ℕ
u32_at bytes place = little_number 4 (drop place bytes)

unfoldable pub u64_at : List ℕ → ℕ → ℕ
u64_at bytes place = little_number 8 (drop place bytes)
