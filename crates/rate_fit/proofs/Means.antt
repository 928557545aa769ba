-- The sum of a frame's samples, one after the other, and its quotient.
use Rattle.std.proofs.Common.{ℕ, ◌+◌, ◌<◌, ◌≤◌, ◌≡◌, ℤ, pos, negsuc, ◌+ℤ◌, ◌*ℤ◌, ◌≤ℤ◌, List, length, arith, take, get_or, FitsSigned, to_z, of_z, w32, w64, ◌∙◌, sym, ap}
use Rattle.std.proofs.lemmas.Int.{ints}
use Rattle.std.proofs.lemmas.List.{take_all}
use Rattle.std.proofs.lemmas.List.Sums.{fold_more}
use Rattle.std.specs.Int.{int_div_euclid}
use Rattle.mix_fixed.proofs.Rounding.{floor_low, floor_high}
use Rattle.rate_fit.specs.Channels.{total, mean}

-- the sum of the first i of the samples, which are numbers of 32 bits
pub record IsPartialSum (xs : List ℤ) (i : ℕ) (sum : ℤ) : Type 0 where
  pub value : sum ≡ total (take i xs)
  pub low : (negsuc 2147483647 *ℤ pos i) ≤ℤ sum
  pub high : sum ≤ℤ (pos 2147483647 *ℤ pos i)

pub sum_more : (xs : List ℤ) (i : ℕ) (sum x : ℤ) → i < length xs → length xs ≤ 8 → FitsSigned w32 x → x ≡ get_or xs i (pos 0) → IsPartialSum xs i sum → IsPartialSum xs (i + 1) (to_z w64 (of_z w64 (sum +ℤ to_z w64 (of_z w64 x))))
sum_more xs i sum x below short fits is_x is =
    let plain : to_z w64 (of_z w64 (sum +ℤ to_z w64 (of_z w64 x))) ≡ sum +ℤ x = omega (arith, ints, fits, is.low, is.high) in
    rw plain (record {
      value = rw (is.value, is_x) (sym (fold_more ◌+ℤ◌ (pos 0) xs i (pos 0) below));
      low = omega (arith, ints, fits, is.low);
      high = omega (arith, ints, fits, is.high);
    })

pub mean_is : (xs : List ℤ) (i : ℕ) (sum q : ℤ) → 1 ≤ length xs → length xs ≤ 8 → i ≡ length xs → IsPartialSum xs i sum → q ≡ int_div_euclid sum (pos (length xs)) → to_z w32 (of_z w32 (to_z w64 (of_z w64 q))) ≡ mean xs
mean_is xs i sum q some short end is value =
    let low : (negsuc 2147483647 *ℤ pos (length xs)) ≤ℤ sum = rw end at is.low in
    let high : sum ≤ℤ (pos 2147483647 *ℤ pos (length xs)) = rw end at is.high in
    let low_q : negsuc 2147483647 ≤ℤ int_div_euclid sum (pos (length xs)) = floor_low sum 2147483647 (length xs) some low in
    let high_q : int_div_euclid sum (pos (length xs)) ≤ℤ pos 2147483647 = floor_high sum 2147483647 (length xs) some high in
    let narrow : to_z w32 (of_z w32 (to_z w64 (of_z w64 q))) ≡ q = omega (arith, ints, value, low_q, high_q) in
    let whole : take i xs ≡ xs = take_all i xs (omega (arith, end)) in
    narrow ∙ value ∙ ap (λ s. int_div_euclid s (pos (length xs))) (is.value ∙ ap total whole)
