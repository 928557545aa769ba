-- The parts of a G.711 code, most significant bit first: a sign bit, three bits of exponent, four bits of mantissa
-- (ITU-T G.711, section 3).
use Rattle.std.specs.Prelude.{ℕ, ◌/◌, ◌%◌, Bool, ◌==◌}

-- bit 7 is set
abbrev pub has_sign_bit : ℕ → Bool
has_sign_bit code = code / 128 % 2 == 1

-- bits 6 to 4: the number of the segment
abbrev pub exponent : ℕ → ℕ
exponent code = code / 16 % 8

-- bits 3 to 0: the place in the segment
abbrev pub mantissa : ℕ → ℕ
mantissa code = code % 16
