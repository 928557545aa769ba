-- The quotient of a blend, without the casts.
use Rattle.std.proofs.Common.{ℕ, ◌-◌, ◌<◌, ◌^◌, ◌≡◌, ℤ, pos, ◌+ℤ◌, arith, FitsSigned, to_z, of_z, w32, w64}
use Rattle.std.proofs.lemmas.Int.{ints}
use Rattle.std.specs.Int.{int_div_euclid}
use Rattle.mix_fixed.specs.Sound.{Is24}
use Rattle.rate_fit.proofs.Sums.{sum_quotient}
use Rattle.rate_fit.specs.Blend.{IsSum}

sum_of_two : (s t : ℤ) (w r : ℕ) → w < r → IsSum (r - w) s → IsSum w t → IsSum r (s +ℤ t)
sum_of_two s t w r below is_s is_t = record {
  low = omega (arith, ints, is_s.low, is_t.low);
  high = omega (arith, ints, is_s.high, is_t.high);
}

-- the quotient q that the code computes from the weighted samples s and t
pub record Quotient (s t q : ℤ) (w r : ℕ) : Type 0 where
  pub below : w < r
  pub rate : r < 2 ^ 32
  pub first : IsSum (r - w) s
  pub second : IsSum w t
  pub value : q ≡ int_div_euclid (to_z w64 (of_z w64 (to_z w64 (of_z w64 s) +ℤ to_z w64 (of_z w64 t)))) (pos r)

pub quotient_is : (s t q : ℤ) (w r : ℕ) → Quotient s t q w r → q ≡ int_div_euclid (s +ℤ t) (pos r)
quotient_is s t q w r quotient =
    let sum : to_z w64 (of_z w64 (to_z w64 (of_z w64 s) +ℤ to_z w64 (of_z w64 t))) ≡ s +ℤ t =
    omega (arith, ints, quotient.below, quotient.rate, quotient.first.low, quotient.first.high, quotient.second.low, quotient.second.high) in
    rw sum at quotient.value

pub quotient_range : (s t q : ℤ) (w r : ℕ) → Quotient s t q w r → Is24 q
quotient_range s t q w r quotient =
    rw (quotient_is s t q w r quotient) (
    sum_quotient (s +ℤ t) r (omega (arith, quotient.below))
    (sum_of_two s t w r quotient.below quotient.first quotient.second)
    )

pub narrowed : (q : ℤ) → Is24 q → to_z w32 (of_z w32 (to_z w64 (of_z w64 q))) ≡ q
narrowed q is = omega (arith, ints, is.low, is.high)

pub fits_narrow : (q : ℤ) → Is24 q → FitsSigned w32 (to_z w64 (of_z w64 q))
fits_narrow q is = omega (arith, ints, is.low, is.high)
