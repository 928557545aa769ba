-- Places in parts of a frame, and the bounds on them.
use Rattle.std.proofs.Common.{ℕ, ◌+◌, ◌*◌, ◌/◌, ◌%◌, ◌<◌, ◌≤◌, ◌≡◌, ◌^◌, arith, refl}
use Rattle.std.proofs.Math.Nat.{mul-le-mul_right}
use Rattle.std.proofs.lemmas.Nat.{div-mul-add, mod-mul-add}
use Rattle.std.proofs.lemmas.Grind.{div_ceil_times}
use Rattle.mix_fixed.proofs.Rounding.{quotient_below}
use Rattle.rate_fit.specs.Conversion.{Conversion, IsConversion, length_of}
use Rattle.rate_fit.specs.Points.{divided, place_of}
use Rattle.rate_fit.specs.declared.point.Point.{Point}

-- a point is known by its place
pub divided_is : (point : Point) (p r : ℕ) → place_of r point ≡ p → point.weight < r → point ≡ divided p r
divided_is point p r place weighted =
    let first : p / r ≡ point.first = rw (← place) (div-mul-add point.first r point.weight weighted) in
    let weight : p % r ≡ point.weight = rw (← place) (mod-mul-add point.first r point.weight weighted) in
    rw (first, weight) refl

-- a frame below the length lies before the clip's end
pub place_inside : (c : Conversion) (n : ℕ) → IsConversion c → n < length_of c → n * c.input_rate < c.frames * c.output_rate
place_inside c n is below =
    let more : (n + 1) * c.input_rate ≤ length_of c * c.input_rate = mul-le-mul_right c.input_rate (omega arith) in
    omega (arith, (div_ceil_times (c.frames * c.output_rate) c.input_rate is.some_in).1)

-- the length lies less than one step after the clip's end
pub place_bound : (c : Conversion) (n : ℕ) → IsConversion c → n ≤ length_of c → n * c.input_rate ≤ 2 ^ 48
place_bound c n is within =
    let less : n * c.input_rate ≤ length_of c * c.input_rate = mul-le-mul_right c.input_rate within in
    let frames : c.frames * c.output_rate ≤ 2 ^ 28 * c.output_rate = mul-le-mul_right c.output_rate is.short in
    omega (arith, (div_ceil_times (c.frames * c.output_rate) c.input_rate is.some_in).1, is.most_in, is.most_out)

pub total_bound : (c : Conversion) → IsConversion c → c.frames * c.output_rate ≤ 2 ^ 48
total_bound c is =
    let frames : c.frames * c.output_rate ≤ 2 ^ 28 * c.output_rate = mul-le-mul_right c.output_rate is.short in
    omega (arith, is.most_out)

pub first_inside : (c : Conversion) (n : ℕ) → IsConversion c → n < length_of c → n * c.input_rate / c.output_rate < c.frames
first_inside c n is below = quotient_below (n * c.input_rate) c.frames c.output_rate is.some_out (place_inside c n is below)
