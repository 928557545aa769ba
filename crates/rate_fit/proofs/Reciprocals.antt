-- A product by a reciprocal that is rounded down gives the quotient, where the product stays small.
use Rattle.std.proofs.Common.{ℕ, ◌+◌, ◌-◌, ◌*◌, ◌/◌, ◌<◌, ◌≤◌, ◌≡◌, ◌^◌, arith, ap}
use Rattle.std.proofs.Math.Nat.{mul-le-mul_right, mul-le-mul_left, le-div_iff_mul-le, lt-div-mul-add, div-mul-le_self}
use Rattle.std.proofs.lemmas.Nat.{div-mul-add}
use Rattle.mix_fixed.proofs.Rounding.{quotient_below}
use Rattle.rate_fit.specs.Blend.{IsReciprocal}

-- the quotient is q where the number lies from q to q + 1 times the divisor
pub quotient_of : (y q b : ℕ) → q * b ≤ y → y < (q + 1) * b → y / b ≡ q
quotient_of y q b low high =
    let rest : y ≡ q * b + (y - q * b) = omega (arith, low) in
    let small : y - q * b < b = omega (arith, low, high) in
    rw rest (div-mul-add q b (y - q * b) small)

-- the reciprocal outweighs what is lost of the quotient
lost : (r m e q : ℕ) → IsReciprocal r m → e ≤ r → q < 2 ^ 24 → q * e ≤ m
lost r m e q is short below =
    let square : r * r ≤ 768000 * r = mul-le-mul_right r is.most in
    let room : 2 ^ 24 * r * r ≤ 2 ^ 64 - 1 = omega (arith, square, is.most) in
    let large : 2 ^ 24 * r ≤ (2 ^ 64 - 1) / r = (le-div_iff_mul-le is.some).1 room in
    let first : q * e ≤ q * r = mul-le-mul_left q short in
    let second : q * r ≤ 2 ^ 24 * r = mul-le-mul_right r (omega (arith, below)) in
    omega (arith, first, second, large, is.value)

product_low : (x r m e q : ℕ) → m * r + e ≡ 2 ^ 64 → q * r ≤ x → q * e ≤ m → q * 2 ^ 64 ≤ (x + 1) * m
product_low x r m e q sum low small =
    let whole : q * (m * r + e) ≡ q * 2 ^ 64 = ap (λ y. q * y) sum in
    let grown : (q * r + 1) * m ≤ (x + 1) * m = mul-le-mul_right m (omega (arith, low)) in
    omega (arith, whole, grown, small)

product_high : (x r m e q : ℕ) → m * r + e ≡ 2 ^ 64 → 0 < e → x < q * r + r → (x + 1) * m < (q + 1) * 2 ^ 64
product_high x r m e q sum some high =
    let whole : (q + 1) * (m * r + e) ≡ (q + 1) * 2 ^ 64 = ap (λ y. (q + 1) * y) sum in
    let grown : (x + 1) * m ≤ (q * r + r) * m = mul-le-mul_right m (omega (arith, high)) in
    omega (arith, whole, grown, some)

pub reciprocal_quotient : (x r m : ℕ) → IsReciprocal r m → x < 2 ^ 24 * r → (x + 1) * m / 2 ^ 64 ≡ x / r
reciprocal_quotient x r m is below =
    let under : m * r ≤ 2 ^ 64 - 1 = rw is.value (div-mul-le_self (2 ^ 64 - 1) r) in
    let over : 2 ^ 64 - 1 < m * r + r = rw is.value (lt-div-mul-add is.some) in
    let sum : m * r + (2 ^ 64 - m * r) ≡ 2 ^ 64 = omega (arith, under) in
    let some : 0 < 2 ^ 64 - m * r = omega (arith, under) in
    let short : 2 ^ 64 - m * r ≤ r = omega (arith, over) in
    let small : x / r < 2 ^ 24 = quotient_below x (2 ^ 24) r is.some below in
    quotient_of ((x + 1) * m) (x / r) (2 ^ 64)
    (product_low x r m (2 ^ 64 - m * r) (x / r) sum (div-mul-le_self x r) (lost r m (2 ^ 64 - m * r) (x / r) is short small))
    (product_high x r m (2 ^ 64 - m * r) (x / r) sum some (lt-div-mul-add is.some))
