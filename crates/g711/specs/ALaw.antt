-- A-law (ITU-T G.711, tables 1a and 1b), each value times 8, which makes 16 bits of its 13.
use Rattle.std.specs.Prelude.{ℕ, ◌+◌, ◌-◌, ◌*◌, ◌^◌, ◌==◌, ℤ, pos, neg_ℤ, bit_xor, if◌then◌else◌}
use Rattle.g711.specs.Code.{has_sign_bit, exponent, mantissa}

-- the even bits, which are inverted on the line
abbrev pub even_bits : ℕ
even_bits = 0x55

-- the middle of the interval: segments 0 and 1 have steps of 16, and each further segment has steps twice as large
abbrev pub alaw_magnitude : ℕ → ℕ → ℕ
alaw_magnitude e m = if e == 0 then 16 * m + 8 else (16 * m + 264) * 2 ^ (e - 1)

-- the sample of a code: positive where bit 7 is set
unfoldable pub alaw : ℕ → ℤ
alaw code =
    let bits = bit_xor code even_bits in
    let magnitude = alaw_magnitude (exponent bits) (mantissa bits) in
    if has_sign_bit bits then pos magnitude else neg_ℤ (pos magnitude)
