-- mu-law (ITU-T G.711, tables 2a and 2b), each value times 4, which makes 16 bits of its 14.
use Rattle.std.specs.Prelude.{ℕ, ◌+◌, ◌-◌, ◌*◌, ◌^◌, ℤ, pos, neg_ℤ, if◌then◌else◌}
use Rattle.g711.specs.Code.{has_sign_bit, exponent, mantissa}

-- all bits inverted, as on the line
abbrev pub complement : ℕ → ℕ
complement code = 255 - code

-- the offset of the segments' ends, 33 on the standard's scale
abbrev pub bias : ℕ
bias = 132

abbrev pub ulaw_magnitude : ℕ → ℕ → ℕ
ulaw_magnitude e m = (8 * m + bias) * 2 ^ e - bias

-- the sample of a code: negative where bit 7 of the complement is set
unfoldable pub ulaw : ℕ → ℤ
ulaw code =
    let bits = complement code in
    let magnitude = ulaw_magnitude (exponent bits) (mantissa bits) in
    if has_sign_bit bits then neg_ℤ (pos magnitude) else pos magnitude
