-- A straight line of gains, step by step.
use Rattle.std.proofs.Common.{◌≡◌, ◌⊎◌, inl, inr, ℕ, ◌+◌, ◌-◌, ◌*◌, ◌<◌, ◌≤◌, ap, arith}
use Rattle.std.proofs.lemmas.Bool.{cases_lt}
use Rattle.std.proofs.Math.Nat.{mul-le-mul_right}
use Rattle.fx_nodes.specs.Slopes.{height}

pub height_most : (first last span at : ℕ) → first ≤ 1048576 → last ≤ 1048576 → at ≤ span → height first last span at ≤ 1048576 * span
height_most first last span at f l inside =
    let a = mul-le-mul_right {m = first} {n = 1048576} (span - at) f in
    let b = mul-le-mul_right {m = last} {n = 1048576} at l in
    omega (arith, a, b, inside)

-- a quotient is at most what its dividend is at most
pub gain_most : (gain rest span most : ℕ) → rest < span → gain * span + rest ≤ most * span → gain ≤ most
gain_most gain rest span most below is = by_side (cases_lt most gain)
  where
    by_side : (most < gain) ⊎ (gain ≤ most) → gain ≤ most
    by_side (inl more) = let big = mul-le-mul_right {m = most + 1} {n = gain} span (omega (arith, more)) in absurd (omega (arith, big, is))
    by_side (inr fine) = fine

-- from one frame to the next: the height grows by `last` and falls by `first`
pub height_next : (first last span at : ℕ) → at < span → height first last span (at + 1) + first * span ≡ height first last span at + (last + first * (span - 1))
height_next first last span at inside =
    let left = span - (at + 1) in
    let rest : span - at ≡ left + 1 = omega arith in
    let less : span - 1 ≡ at + left = omega arith in
    let whole : span ≡ at + left + 1 = omega arith in
    omega (arith, ap (λ n. first * n) rest, ap (λ n. first * n) less, ap (λ n. first * n) whole)

-- a gain is at least the first one that is taken off it
pub reaches : (gain rest first span h : ℕ) → rest < span → gain * span + rest ≡ h + first * span → first ≤ gain
reaches gain rest first span h below is = by_side (cases_lt gain first)
  where
    by_side : (gain < first) ⊎ (first ≤ gain) → first ≤ gain
    by_side (inl less) = let big = mul-le-mul_right {m = gain + 1} {n = first} span (omega (arith, less)) in absurd (omega (arith, big, is, below))
    by_side (inr fine) = fine

-- the sum of a mark and the step
pub sum_is : (first last span at g r sg sr : ℕ) → at < span → g * span + r ≡ height first last span at → sg * span + sr ≡ last + first * (span - 1)
    → (g + sg) * span + (r + sr) ≡ height first last span (at + 1) + first * span
sum_is first last span at g r sg sr inside mark step = omega (arith, mark, step, height_next first last span at inside)

-- the mark of the next frame
pub next_mark : (first last span at gain gain' rest' : ℕ) → first ≤ 1048576 → last ≤ 1048576 → at < span → rest' < span → gain' + first ≡ gain
    → gain * span + rest' ≡ height first last span (at + 1) + first * span → (gain' * span + rest' ≡ height first last span (at + 1)) × (gain' ≤ 1048576)
next_mark first last span at gain gain' rest' f l inside below taken is =
    let place : gain' * span + rest' ≡ height first last span (at + 1) = omega (arith, is, ap (λ n. n * span) taken) in
    (place, gain_most gain' rest' span 1048576 below (omega (arith, place, height_most first last span (at + 1) f l (omega (arith, inside)))))
