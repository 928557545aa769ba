-- Samples of 24 bits, and how they lie in the data chunk of a PCM WAVE file (Microsoft's RIFF WAVE description,
-- "Data packing for PCM WAVE files"): little-endian two's complement, 2 bytes at a width of 16 bits and 3 at 24.
use Rattle.std.specs.Prelude.{ℕ, ◌==◌, ℤ, pos, List, if◌then◌else◌}
use Rattle.std.specs.Int.{int_div_euclid, cast_unsigned, w32}
use Rattle.std.specs.List.{flat_map}
use Rattle.byteorder.specs.Endian.{little_bytes}

-- the lowest n bytes of x in two's complement, the lowest first
abbrev pub signed_bytes : ℕ → ℤ → List ℕ
signed_bytes n x = little_bytes n (cast_unsigned w32 x)

-- a sample of 24 bits at a width: at 16 bits it is divided by 256, rounded down
abbrev pub packed_sample : ℕ → ℤ → List ℕ
packed_sample width x = if width == 16 then signed_bytes 2 (int_div_euclid x (pos 256)) else signed_bytes 3 x

-- the samples one after the other
abbrev pub packed : ℕ → List ℤ → List ℕ
packed width samples = flat_map (packed_sample width) samples
