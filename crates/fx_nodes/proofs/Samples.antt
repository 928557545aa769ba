-- Samples by a gain of at most 1.0.
use Rattle.std.proofs.Common.{ℕ, ◌≡◌, ◌≤◌, ℤ, pos, negsuc, ◌*ℤ◌, ◌≤ℤ◌, arith, w32, to_z, of_z}
use Rattle.std.proofs.lemmas.Int.{ints}
use Rattle.mix_fixed.proofs.Rounding.{floor_low, floor_high, product_low, product_high}
use Rattle.mix_fixed.specs.Sound.{Is24, scale}

pub scale_kept : (x result : ℤ) (g : ℕ) → result ≡ scale x g → Is24 x → g ≤ 65536 → Is24 result
scale_kept x result g is_scaled is most = rw is_scaled (record {
  low =
      let low : (negsuc 8388607 *ℤ pos 65536) ≤ℤ (x *ℤ pos g) = omega (arith, ints, product_low x 8388607 g is.low) in
      floor_low (x *ℤ pos g) 8388607 65536 (omega arith) low;
  high =
      let high : (x *ℤ pos g) ≤ℤ (pos 8388607 *ℤ pos 65536) = omega (arith, ints, product_high x 8388607 g is.high) in
      floor_high (x *ℤ pos g) 8388607 65536 (omega arith) high;
})

-- a sample of 24 bits in a word of 32
pub plain : (x : ℤ) → Is24 x → to_z w32 (of_z w32 x) ≡ x
plain x is = omega (arith, ints, is.low, is.high)
