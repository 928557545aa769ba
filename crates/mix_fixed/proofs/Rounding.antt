-- Bounds on products and on a quotient that is rounded down.
use Rattle.std.proofs.Common.{ℕ, ◌+◌, ◌*◌, ◌/◌, ◌<◌, ◌≤◌, ◌≡◌, ℤ, pos, negsuc, ◌*ℤ◌, ◌≤ℤ◌, arith}
use Rattle.std.proofs.lemmas.Int.{ints}
use Rattle.std.proofs.Math.Nat.{div-lt_iff_lt-mul, mul-le-mul_right}
use Rattle.std.specs.Int.{int_div_euclid}
use Rattle.mix_fixed.specs.Sound.{Is24, IsScaled, scale}

pub quotient_below : (n m r : ℕ) → 0 < r → n < m * r → n / r < m
quotient_below n m r some below = grind (arith, div-lt_iff_lt-mul)

pub floor_low : (z : ℤ) (k r : ℕ) → 0 < r → (negsuc k *ℤ pos r) ≤ℤ z → negsuc k ≤ℤ int_div_euclid z (pos r)
floor_low (pos n) k r some low = omega (arith, ints)
floor_low (negsuc n) k r some low =
    let below : n < (k + 1) * r = omega (arith, ints, low) in
    omega (arith, ints, quotient_below n (k + 1) r some below)

pub floor_high : (z : ℤ) (h r : ℕ) → 0 < r → z ≤ℤ (pos h *ℤ pos r) → int_div_euclid z (pos r) ≤ℤ pos h
floor_high (pos n) h r some high =
    let below : n < (h + 1) * r = omega (arith, ints, high, some) in
    omega (arith, ints, quotient_below n (h + 1) r some below)
floor_high (negsuc n) h r some high = omega (arith, ints)

pub product_low : (x : ℤ) (k n : ℕ) → negsuc k ≤ℤ x → (negsuc k *ℤ pos n) ≤ℤ (x *ℤ pos n)
product_low (pos a) k n low = omega (arith, ints)
product_low (negsuc a) k n low =
    let small : a + 1 ≤ k + 1 = omega (arith, ints, low) in
    omega (arith, ints, mul-le-mul_right {m = a + 1} {n = k + 1} n small)

pub product_high : (x : ℤ) (h n : ℕ) → x ≤ℤ pos h → (x *ℤ pos n) ≤ℤ (pos h *ℤ pos n)
product_high (pos a) h n high =
    let small : a ≤ h = omega (arith, ints, high) in
    omega (arith, ints, mul-le-mul_right {m = a} {n = h} n small)
product_high (negsuc a) h n high = omega (arith, ints)

pub scale_range : (x result : ℤ) (g : ℕ) → result ≡ scale x g → Is24 x → g ≤ 1048576 → IsScaled result
scale_range x result g is_scaled is most = rw is_scaled (record {
  low =
      let low : (negsuc 134217727 *ℤ pos 65536) ≤ℤ (x *ℤ pos g) = omega (arith, ints, product_low x 8388607 g is.low) in
      floor_low (x *ℤ pos g) 134217727 65536 (omega arith) low;
  high =
      let high : (x *ℤ pos g) ≤ℤ (pos 134217712 *ℤ pos 65536) = omega (arith, ints, product_high x 8388607 g is.high) in
      floor_high (x *ℤ pos g) 134217712 65536 (omega arith) high;
})
