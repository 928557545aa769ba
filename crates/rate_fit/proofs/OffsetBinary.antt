-- Samples in offset binary: 2^23 is added to them, so that none is negative, and so it is to the quotient.
use Rattle.std.proofs.Common.{ℕ, ◌+◌, ◌-◌, ◌*◌, ◌/◌, ◌<◌, ◌≤◌, ◌≡◌, ◌^◌, ℤ, pos, negsuc, ◌+ℤ◌, ◌*ℤ◌, arith, ap}
use Rattle.std.proofs.lemmas.Int.{ints}
use Rattle.std.proofs.Math.Nat.{add-mul-div_left, lt-div-mul-add, div-mul-le_self}
use Rattle.std.specs.Int.{int_div_euclid}
use Rattle.mix_fixed.proofs.Rounding.{quotient_below}
use Rattle.rate_fit.proofs.Reciprocals.{quotient_of}
use Rattle.rate_fit.specs.Blend.{blended}

offset_product : (a : ℤ) (l u : ℕ) → pos l ≡ a +ℤ pos (2 ^ 23) → pos (l * u) ≡ (a *ℤ pos u) +ℤ pos (2 ^ 23 * u)
offset_product (pos k) l u is =
    let sum : l ≡ k + 2 ^ 23 = omega (arith, ints, is) in
    let product : l * u ≡ (k + 2 ^ 23) * u = ap (λ y. y * u) sum in
    omega (arith, ints, product)
offset_product (negsuc k) l u is =
    let sum : l + (k + 1) ≡ 2 ^ 23 = omega (arith, ints, is) in
    let product : (l + (k + 1)) * u ≡ 2 ^ 23 * u = ap (λ y. y * u) sum in
    omega (arith, ints, product)

offset_quotient : (z : ℤ) (n r : ℕ) → 0 < r → pos n ≡ z +ℤ pos (2 ^ 23 * r) → pos (n / r) ≡ int_div_euclid z (pos r) +ℤ pos (2 ^ 23)
offset_quotient (pos k) n r some is =
    let sum : n ≡ k + r * 2 ^ 23 = omega (arith, ints, is) in
    let quotient : n / r ≡ k / r + 2 ^ 23 = rw sum (add-mul-div_left k (2 ^ 23) some) in
    omega (arith, ints, quotient)
offset_quotient (negsuc k) n r some is =
    let sum : n + (k + 1) ≡ 2 ^ 23 * r = omega (arith, ints, is) in
    let below : k / r < 2 ^ 23 = quotient_below k (2 ^ 23) r some (omega (arith, sum)) in
    let i : ℕ = 2 ^ 23 - 1 - k / r in
    let parts : (i + 1 + k / r) * r ≡ 2 ^ 23 * r = ap (λ y. y * r) (omega (arith, below)) in
    let low : i * r ≤ n = omega (arith, sum, parts, lt-div-mul-add {a = k} some) in
    let high : n < (i + 1) * r = omega (arith, sum, parts, div-mul-le_self k r) in
    let quotient : n / r ≡ i = quotient_of n i r low high in
    omega (arith, ints, quotient, below)

-- the samples l and k in offset binary, weighted and divided, give the blend of a and b in offset binary
pub offset_blend : (a b y : ℤ) (l k n w r : ℕ) → w < r → pos l ≡ a +ℤ pos (2 ^ 23) → pos k ≡ b +ℤ pos (2 ^ 23) → pos n ≡ y +ℤ pos (2 ^ 23) → n ≡ (l * (r - w) + k * w) / r → y ≡ blended a b w r
offset_blend a b y l k n w r below is_l is_k is_n quotient =
    let rate : 2 ^ 23 * (r - w) + 2 ^ 23 * w ≡ 2 ^ 23 * r = omega (arith, below) in
    let z : ℤ = (a *ℤ pos (r - w)) +ℤ (b *ℤ pos w) in
    let sum : pos (l * (r - w) + k * w) ≡ z +ℤ pos (2 ^ 23 * r) =
    omega (arith, ints, offset_product a l (r - w) is_l, offset_product b k w is_k, rate) in
    let whole = offset_quotient z (l * (r - w) + k * w) r (omega (arith, below)) sum in
    omega (arith, ints, whole, quotient, is_n)
