-- Sums of samples of 24 bits, and their quotients.
use Rattle.std.proofs.Common.{ℕ, suc, ◌+◌, ◌<◌, ◌≤◌, ◌≡◌, ℤ, pos, ◌+ℤ◌, ◌*ℤ◌, List, [], ◌∷◌, length, arith, fold, All}
use Rattle.std.proofs.lemmas.Int.{ints}
use Rattle.std.specs.Int.{int_div_euclid}
use Rattle.mix_fixed.proofs.Rounding.{product_low, product_high, floor_low, floor_high}
use Rattle.mix_fixed.specs.Sound.{Is24}
use Rattle.rate_fit.specs.Blend.{IsSum}
use Rattle.rate_fit.specs.Channels.{total, mean}

pub times_is_sum : (x result : ℤ) (n : ℕ) → result ≡ x *ℤ pos n → Is24 x → IsSum n result
times_is_sum x result n product is = rw product (record {
  low = product_low x 8388607 n is.low;
  high = product_high x 8388607 n is.high;
})

pub sum_quotient : (x : ℤ) (n : ℕ) → 0 < n → IsSum n x → Is24 (int_div_euclid x (pos n))
sum_quotient x n some is = record {
  low = floor_low x 8388607 n some is.low;
  high = floor_high x 8388607 n some is.high;
}

sum_from : (a : ℤ) (m : ℕ) (xs : List ℤ) → All Is24 xs → IsSum m a → IsSum (m + length xs) (fold ◌+ℤ◌ a xs)
sum_from a m [] all is = record { low = omega (arith, ints, is.low); high = omega (arith, ints, is.high) }
sum_from a m (x ∷ xs) all is =
    let first : Is24 x = all 0 x (omega arith) in
    let more : IsSum (m + 1) (a +ℤ x) = record {
      low = omega (arith, ints, is.low, first.low);
      high = omega (arith, ints, is.high, first.high);
    } in
    let whole : IsSum (m + 1 + length xs) (fold ◌+ℤ◌ (a +ℤ x) xs) =
    sum_from (a +ℤ x) (m + 1) xs (λ k d below. all (suc k) d (omega arith)) more in
    record { low = omega (arith, ints, whole.low); high = omega (arith, ints, whole.high) }

pub sum_of_all : (xs : List ℤ) → All Is24 xs → IsSum (length xs) (total xs)
sum_of_all xs all =
    let none : IsSum 0 (pos 0) = record { low = omega (arith, ints); high = omega (arith, ints) } in
    let whole : IsSum (0 + length xs) (total xs) = sum_from (pos 0) 0 xs all none in
    record { low = omega (arith, ints, whole.low); high = omega (arith, ints, whole.high) }

pub mean_range : (xs : List ℤ) → 1 ≤ length xs → All Is24 xs → Is24 (mean xs)
mean_range xs some all = sum_quotient (total xs) (length xs) some (sum_of_all xs all)
