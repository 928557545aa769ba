-- Sound arithmetic: samples of 24 bits in two's complement, as in 24-bit PCM (Microsoft, "Multiple Channel Audio Data
-- and WAVE Files"), and gains in 1/65536.
use Rattle.std.specs.Prelude.{ℕ, ℤ, pos, negsuc, ◌*ℤ◌, ◌≤ℤ◌}
use Rattle.std.specs.Int.{saturate_to_bits, int_div_euclid}

-- a gain of 1.0
abbrev pub unity_gain : ℕ
unity_gain = 65536

-- a gain of 16.0
abbrev pub largest_gain : ℕ
largest_gain = 1048576

-- the least sample of 24 bits, -8388608, and the greatest
abbrev pub least_sample : ℤ
least_sample = negsuc 8388607

abbrev pub greatest_sample : ℤ
greatest_sample = pos 8388607

-- x is a sample of 24 bits
pub record Is24 (x : ℤ) : Type 0 where
  pub low : least_sample ≤ℤ x
  pub high : x ≤ℤ greatest_sample

-- x is a sample of 24 bits by at most 16.0: from -134217728 to 134217712
pub record IsScaled (x : ℤ) : Type 0 where
  pub low : negsuc 134217727 ≤ℤ x
  pub high : x ≤ℤ pos 134217712

-- the sample of 24 bits that is nearest to x
abbrev pub sat24 : ℤ → ℤ
sat24 x = saturate_to_bits 23 x

-- the sample x by the gain g, rounded down
abbrev pub scale : ℤ → ℕ → ℤ
scale x g = int_div_euclid (x *ℤ pos g) (pos unity_gain)
