-- A sample by a gain by way of a product without sign, and what is added to sums of 32 bits.
use Rattle.std.proofs.Common.{◌≡◌, ◌∙◌, ℕ, ◌+◌, ◌-◌, ◌*◌, ◌/◌, ◌^◌, ◌<◌, ◌≤◌, ℤ, pos, negsuc, ◌+ℤ◌, ◌*ℤ◌, List, length, set, ap, sym, refl, w32, to_z, of_z, arith}
use Rattle.std.proofs.lemmas.Int.{ints}
use Rattle.std.proofs.Math.Nat.{add-mul-div_left, lt-div-mul-add, div-mul-le_self, div-div-eq-div-mul, le-div_iff_mul-le, mul-div_cancel, mul-le-mul_right}
use Rattle.std.specs.Int.{int_div_euclid}
use Rattle.mix_fixed.specs.Kernels.{at, AreSamples, AreWithin, IsMixed, IsWithin, MixedIn, most_narrow_sum, most_share}
use Rattle.mix_fixed.specs.Sound.{Is24, IsScaled, scale, unity_gain}
use Rattle.mix_fixed.proofs.Lanes.{one_stored, then_more}
use Rattle.mix_fixed.proofs.Rounding.{quotient_below}

-- ---- the product of a raised sample

raised_product : (x : ℤ) (r g : ℕ) → pos r ≡ x +ℤ pos (2 ^ 23) → pos (r * g) ≡ (x *ℤ pos g) +ℤ pos (2 ^ 23 * g)
raised_product (pos k) r g is =
    let sum : r ≡ k + 2 ^ 23 = omega (arith, ints, is) in
    let product : r * g ≡ (k + 2 ^ 23) * g = ap (λ y. y * g) sum in
    omega (arith, ints, product)
raised_product (negsuc k) r g is =
    let sum : r + (k + 1) ≡ 2 ^ 23 = omega (arith, ints, is) in
    let product : (r + (k + 1)) * g ≡ 2 ^ 23 * g = ap (λ y. y * g) sum in
    omega (arith, ints, product)

quotient_between : (n q d : ℕ) → 0 < d → q * d ≤ n → n < (q + 1) * d → n / d ≡ q
quotient_between n q d some low high =
    let least : q ≤ n / d = (le-div_iff_mul-le some).1 low in
    omega (arith, least, quotient_below n (q + 1) d some high)

raised_quotient : (z : ℤ) (n m d : ℕ) → 0 < d → pos n ≡ z +ℤ pos (m * d) → pos (n / d) ≡ int_div_euclid z (pos d) +ℤ pos m
raised_quotient (pos k) n m d some is =
    let sum : n ≡ k + d * m = omega (arith, ints, is) in
    let quotient : n / d ≡ k / d + m = rw sum (add-mul-div_left k m some) in
    omega (arith, ints, quotient)
raised_quotient (negsuc k) n m d some is =
    let sum : n + (k + 1) ≡ m * d = omega (arith, ints, is) in
    let below : k / d < m = quotient_below k m d some (omega (arith, sum)) in
    let i : ℕ = m - 1 - k / d in
    let parts : (i + 1 + k / d) * d ≡ m * d = ap (λ y. y * d) (omega (arith, below)) in
    let low : i * d ≤ n = omega (arith, sum, parts, lt-div-mul-add {a = k} some) in
    let high : n < (i + 1) * d = omega (arith, sum, parts, div-mul-le_self k d) in
    omega (arith, ints, quotient_between n i d some low high, below)

raised_scale : (x : ℤ) (r g : ℕ) → pos r ≡ x +ℤ pos (2 ^ 23) → pos (r * g / 65536) ≡ scale x g +ℤ pos (128 * g)
raised_scale x r g is =
    let bias : 128 * g * 65536 ≡ 2 ^ 23 * g = omega arith in
    raised_quotient (x *ℤ pos g) (r * g) (128 * g) 65536 (omega arith) (omega (arith, ints, raised_product x r g is, bias))

pub share_is : (x y : ℤ) (r n g : ℕ) → pos r ≡ x +ℤ pos (2 ^ 23) → n ≡ r * g / 65536 → pos n ≡ y +ℤ pos (128 * g) → y ≡ scale x g
share_is x y r n g raised quotient lowered = omega (arith, ints, raised_scale x r g raised, quotient, lowered)

-- the upper half of the product of both by 256 is a quotient by 65536
pub upper_half_is : (r g : ℕ) → (r * 256) * (g * 256) / 2 ^ 32 ≡ r * g / 65536
upper_half_is r g =
    let product : (r * 256) * (g * 256) ≡ (r * g) * 65536 = omega arith in
    let parts : 2 ^ 32 ≡ 65536 * 65536 = refl in
    rw (product, parts) (sym (div-div-eq-div-mul (r * g * 65536) 65536 65536) ∙ ap (λ n. n / 65536) (mul-div_cancel (r * g) (omega arith)))

-- ---- how far from 0 sums come

raised_of : (x : ℤ) → Is24 x → (r : ℕ) × (pos r ≡ x +ℤ pos (2 ^ 23)) × (r ≤ 2 ^ 24)
raised_of (pos n) is = (n + 2 ^ 23, omega (arith, ints), omega (arith, ints, is.high))
raised_of (negsuc n) is = (2 ^ 23 - (n + 1), omega (arith, ints, is.low), omega arith)

share_within : (x : ℤ) (g : ℕ) → Is24 x → IsWithin (most_share g) (scale x g)
share_within x g is =
    let r = raised_of x is in
    let scaled = raised_scale x r.0 g r.1 in
    let product : r.0 * g ≤ 2 ^ 24 * g = mul-le-mul_right g r.2 in
    let top : r.0 * g / 65536 < 256 * g + 1 = quotient_below (r.0 * g) (256 * g + 1) 65536 (omega arith) (omega (arith, product)) in
    record { low = omega (arith, ints, scaled); high = omega (arith, ints, scaled, top) }

sum_within : (most g : ℕ) (a share sum : ℤ) → sum ≡ a +ℤ share → IsWithin most a → IsWithin (most_share g) share → IsWithin (most + most_share g) sum
sum_within most g a share sum is within less = record { low = omega (arith, ints, is, within.low, less.low); high = omega (arith, ints, is, within.high, less.high) }

pub within_more : (most g : ℕ) (old samples new : List ℤ) → length old ≡ length samples → length new ≡ length old → AreSamples samples → IsMixed g old samples new → AreWithin most old → AreWithin (most + most_share g) new
within_more most g old samples new lengths kept are mixed within j below =
    let there : j < length old = omega (arith, kept, below) in
    sum_within most g (at old j) (scale (at samples j) g) (at new j) (mixed j there) (within j there) (share_within (at samples j) g (are j (omega (arith, lengths, there))))

-- ---- one sum more

-- a gain of 1.0 leaves a sample as it is
pub scale_unity : (x : ℤ) → scale x unity_gain ≡ x
scale_unity (pos n) =
    let back : n * 65536 / 65536 ≡ n = mul-div_cancel n (omega arith) in
    omega (arith, ints, back)
scale_unity (negsuc n) =
    let back : pos (0 / 65536) ≡ scale (negsuc n) unity_gain +ℤ pos (n + 1) = raised_quotient (negsuc n *ℤ pos 65536) 0 (n + 1) 65536 (omega arith) (omega (arith, ints)) in
    omega (arith, ints, back)

pub sample_scaled : (x : ℤ) → Is24 x → IsScaled x
sample_scaled x is = record { low = omega (arith, ints, is.low); high = omega (arith, ints, is.high) }

pub narrow_sum : (a share y : ℤ) → IsWithin most_narrow_sum a → IsScaled share → share ≡ y → to_z w32 (of_z w32 (to_z w32 (of_z w32 a) +ℤ to_z w32 (of_z w32 share))) ≡ a +ℤ y
narrow_sum a share y within scaled is = omega (arith, ints, within.low, within.high, scaled.low, scaled.high, is)

pub sample_kept : (x : ℤ) → Is24 x → to_z w32 (of_z w32 x) ≡ x
sample_kept x is = omega (arith, ints, is.low, is.high)

pub one_more : (i g : ℕ) (old samples sums : List ℤ) (value : ℤ) → i < length sums → value ≡ at sums i +ℤ scale (at samples i) g → MixedIn 0 i g old samples sums → MixedIn 0 (i + 1) g old samples (set sums i value)
one_more i g old samples sums value there is before = then_more i 1 g old samples sums (set sums i value) before (one_stored i g sums samples value there is)
