-- Linear interpolation in whole numbers.
use Rattle.std.specs.Prelude.{ℕ, ◌-◌, ◌/◌, ◌^◌, ◌<◌, ◌≤◌, ◌≡◌, ℤ, pos, ◌+ℤ◌, ◌*ℤ◌, ◌≤ℤ◌}
use Rattle.std.specs.Int.{int_div_euclid}
use Rattle.mix_fixed.specs.Sound.{least_sample, greatest_sample}
use Rattle.rate_fit.specs.Conversion.{highest_rate}

-- (a * (r - w) + b * w) / r, rounded down
abbrev pub blended : ℤ → ℤ → ℕ → ℕ → ℤ
blended a b w r = int_div_euclid ((a *ℤ pos (r - w)) +ℤ (b *ℤ pos w)) (pos r)

-- x lies where a sum of n samples of 24 bits can lie
pub record IsSum (n : ℕ) (x : ℤ) : Type 0 where
  pub low : (least_sample *ℤ pos n) ≤ℤ x
  pub high : x ≤ℤ (greatest_sample *ℤ pos n)

-- m is what a product of 128 bits takes in place of a division by the rate r
pub record IsReciprocal (r m : ℕ) : Type 0 where
  pub some : 0 < r
  pub most : r ≤ highest_rate
  pub value : m ≡ (2 ^ 64 - 1) / r
