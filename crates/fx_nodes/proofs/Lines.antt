-- A straight line of gains by signed parts.
use Rattle.std.proofs.Common.{◌≡◌, ◌⊎◌, inl, inr, ℕ, zero, suc, ◌+◌, ◌-◌, ◌*◌, ◌/◌, ◌%◌, ◌<◌, ◌≤◌, pos, negsuc, ◌+ℤ◌, ◌-ℤ◌, ◌*ℤ◌, ap, arith}
use Rattle.std.proofs.Math.Nat.{mul-le-mul_right}
use Rattle.std.specs.Int.{int_div_euclid}
use Rattle.std.proofs.lemmas.Bool.{cases_lt}
use Rattle.std.proofs.lemmas.Int.{ints}
use Rattle.std.proofs.lemmas.Nat.{div-add-mod', div-mul-add, mod_below}

-- a whole number of spans more, and fewer
up : (first m span : ℕ) → 0 < span → (first * span + m) / span ≡ first + m / span
up first m span some =
    let parts : first * span + m ≡ (first + m / span) * span + m % span = omega (arith, div-add-mod' m span) in
    rw parts (div-mul-add (first + m / span) span (m % span) (mod_below m span some))

down : (first n h span : ℕ) → 0 < span → h + suc n ≡ first * span → h / span + suc (n / span) ≡ first
down first n h span some is = by_room (cases_lt (n / span) first)
  where
    rest : n % span < span
    rest = mod_below n span some

    by_room : (n / span < first) ⊎ (first ≤ n / span) → h / span + suc (n / span) ≡ first
    by_room (inl room) =
        let left = first - suc (n / span) in
        let whole : first ≡ left + suc (n / span) = omega (arith, room) in
        let parts : h ≡ left * span + (span - 1 - n % span) = omega (arith, is, div-add-mod' n span, rest, ap (λ k. k * span) whole) in
        let quotient : h / span ≡ left = rw parts (div-mul-add left span (span - 1 - n % span) (omega (arith, rest, some))) in
        omega (arith, quotient, room)
    by_room (inr none) = let big = mul-le-mul_right {m = first} {n = n / span} span none in absurd (omega (arith, big, is, div-add-mod' n span))

rising : (first d k span : ℕ) → 0 < span → pos ((first * span + d * k) / span) ≡ pos first +ℤ int_div_euclid (pos d *ℤ pos k) (pos span)
rising first d k span some = ap pos (up first (d * k) span some)

falling : (first n h span : ℕ) → 0 < span → h + suc n ≡ first * span → pos (h / span) ≡ pos first +ℤ int_div_euclid (negsuc n) (pos span)
falling first n h span some is = omega (arith, ints, down first n h span some is)

-- the height of a line that rises, and of one that falls
height_up : (first last d k span : ℕ) → k < span → last ≡ first + d → first * (span - k) + last * k ≡ first * span + d * k
height_up first last d k span inside is =
    let whole : span ≡ span - k + k = omega (arith, inside) in
    omega (arith, ap (λ n. n * k) is, ap (λ n. first * n) whole)

height_down : (first last d k span : ℕ) → k < span → first ≡ last + d → first * (span - k) + last * k + d * k ≡ first * span
height_down first last d k span inside is =
    let whole : span ≡ span - k + k = omega (arith, inside) in
    omega (arith, ap (λ n. n * k) is, ap (λ n. first * n) whole)

falls : (e j : ℕ) → negsuc e *ℤ pos (suc j) ≡ negsuc (suc e * suc j - 1)
falls e j = omega (arith, ints)

pub line_is : (first last span k : ℕ) → k < span
    → pos ((first * (span - k) + last * k) / span) ≡ pos first +ℤ int_div_euclid ((pos last -ℤ pos first) *ℤ pos k) (pos span)
line_is first last span k inside = by_side k inside (cases_lt last first)
  where
    by_side : (k : ℕ) → k < span → (last < first) ⊎ (first ≤ last)
        → pos ((first * (span - k) + last * k) / span) ≡ pos first +ℤ int_div_euclid ((pos last -ℤ pos first) *ℤ pos k) (pos span)
    by_side k inside (inr rises) =
        let d = last - first in
        let part : pos last -ℤ pos first ≡ pos d = omega (arith, ints, rises) in
        rw (part, height_up first last d k span inside (omega (arith, rises))) (rising first d k span (omega (arith, inside)))
    by_side zero inside (inl sinks) =
        let part : (pos last -ℤ pos first) *ℤ pos 0 ≡ pos 0 *ℤ pos 0 = omega (arith, ints) in
        let height : first * (span - 0) + last * 0 ≡ first * span + 0 * 0 = let all : span - 0 ≡ span = omega arith in omega (arith, ap (λ n. first * n) all) in
        rw (part, height) (rising first 0 0 span (omega (arith, inside)))
    by_side (suc j) inside (inl sinks) =
        let e = first - last - 1 in
        let part : pos last -ℤ pos first ≡ negsuc e = omega (arith, ints, sinks) in
        let some : 0 < suc e * suc j = omega (arith, mul-le-mul_right {m = 1} {n = suc e} (suc j) (omega arith)) in
        let height : first * (span - suc j) + last * suc j + suc (suc e * suc j - 1) ≡ first * span =
        omega (arith, height_down first last (suc e) (suc j) span inside (omega (arith, sinks)), some) in
        rw (part, falls e j) (falling first (suc e * suc j - 1) (first * (span - suc j) + last * suc j) span (omega (arith, inside)) height)
