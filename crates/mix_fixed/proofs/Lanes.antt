-- Lanes: eight sums at a time.
use Rattle.std.proofs.Common.{◌≡◌, ◌≢◌, ◌∙◌, ◌⊎◌, ℕ, zero, suc, ◌+◌, ◌-◌, ◌^◌, ◌<◌, ◌≤◌, ℤ, pos, ◌+ℤ◌, ◌*ℤ◌, List, [], ◌∷◌, map, length, get_or, set, get_or-set_same, get_or-set_other, replicate, refl, ap, subst, inl, inr, w32, w64, to_z, of_z, arith, rules, Bool, true, false, ltb}
use Rattle.std.proofs.lemmas.Bool.{ltb-true, ltb-false}
use Rattle.std.proofs.lemmas.Int.{ints, to_z-of_z, int_wrap_fits, wrapping_mul_onto, wrapping_add_onto}
use Rattle.std.proofs.lemmas.Simd.{get_or-replicate, get_or-chunk, length-chunk, get_or-put_chunk_at, get_or-put_chunk_below, get_or-put_chunk_above}
use lib.Lanes.{zip2, chunk, put_chunk, Each1}
use lib.Signed.{shr_z}
use borrow.Rule.Simd.Lanes.{act1, act2, Asks1}
use borrow.Table.Row.{s_int}
use mir.Syntax.{wrap_add, wrap_mul, shr, cast, signed}
use Rattle.mix_fixed.specs.Kernels.{at, IsWithin, MixedIn}
use Rattle.mix_fixed.specs.Sound.{Is24, IsScaled, largest_gain, scale}
use Rattle.mix_fixed.proofs.Rounding.{product_low, product_high, scale_range}

-- ---- one lane of a vector that is computed from others, and how many lanes it has

module _ (f : ℕ → ℤ) (p : ℤ → ℕ) (q : ℤ → ℕ) (c : ℕ → ℕ) (add shift by : ℕ → ℕ → ℕ) where
  abbrev all_lanes : List ℤ → List ℤ → List ℕ → List ℕ → List ℤ
  all_lanes ls xs gs ss = map f (zip2 add (map p ls) (zip2 shift (zip2 by (map c (map q xs)) gs) ss))

  one_lane : (ls xs : List ℤ) (gs ss : List ℕ) (j : ℕ) → j < length ls → j < length xs → j < length gs → j < length ss
      → get_or (all_lanes ls xs gs ss) j (pos 0) ≡ f (add (p (get_or ls j (pos 0))) (shift (by (c (q (get_or xs j (pos 0)))) (get_or gs j 0)) (get_or ss j 0)))
  one_lane [] xs gs ss j a x g s = absurd (omega arith)
  one_lane (_ ∷ ls) [] gs ss j a x g s = absurd (omega arith)
  one_lane (_ ∷ ls) (_ ∷ xs) [] ss j a x g s = absurd (omega arith)
  one_lane (_ ∷ ls) (_ ∷ xs) (_ ∷ gs) [] j a x g s = absurd (omega arith)
  one_lane (_ ∷ ls) (_ ∷ xs) (_ ∷ gs) (_ ∷ ss) zero a x g s = refl
  one_lane (_ ∷ ls) (_ ∷ xs) (_ ∷ gs) (_ ∷ ss) (suc j) a x g s = one_lane ls xs gs ss j (omega arith) (omega arith) (omega arith) (omega arith)

  count_lanes : (n : ℕ) (ls xs : List ℤ) (gs ss : List ℕ) → length ls ≡ n → length xs ≡ n → length gs ≡ n → length ss ≡ n → length (all_lanes ls xs gs ss) ≡ n
  count_lanes zero [] xs gs ss a x g s = refl
  count_lanes zero (_ ∷ ls) xs gs ss a x g s = absurd (omega arith)
  count_lanes (suc n) [] xs gs ss a x g s = absurd (omega arith)
  count_lanes (suc n) (_ ∷ ls) [] gs ss a x g s = absurd (omega arith)
  count_lanes (suc n) (_ ∷ ls) (_ ∷ xs) [] ss a x g s = absurd (omega arith)
  count_lanes (suc n) (_ ∷ ls) (_ ∷ xs) (_ ∷ gs) [] a x g s = absurd (omega arith)
  count_lanes (suc n) (_ ∷ ls) (_ ∷ xs) (_ ∷ gs) (_ ∷ ss) a x g s =
      let more = count_lanes n ls xs gs ss (omega arith) (omega arith) (omega arith) (omega arith) in omega (arith, more)

-- ---- the value of a lane

abbrev widened : ℕ → ℕ
widened = act1 (cast signed signed w64) (s_int w32) (s_int w64)

abbrev product : ℕ → ℕ → ℕ
product = act2 wrap_mul (s_int w64) (s_int w64) (s_int w64)

abbrev shifted : ℕ → ℕ → ℕ
shifted = act2 (shr signed) (s_int w64) (s_int w64) (s_int w64)

abbrev total : ℕ → ℕ → ℕ
total = act2 wrap_add (s_int w64) (s_int w64) (s_int w64)

widened_is : (x : ℤ) → Is24 x → widened (of_z w32 x) ≡ of_z w64 x
widened_is x is = ap (of_z w64) (to_z-of_z w32 x (grind (arith, ints, is.low, is.high)))

product_is : (x : ℤ) (g : ℕ) → Is24 x → g ≤ largest_gain → to_z w64 (product (of_z w64 x) (of_z w64 (pos g))) ≡ x *ℤ pos g
product_is x g is most =
    let low = product_low x 8388607 g is.low in
    let high = product_high x 8388607 g is.high in
    let kept : to_z w64 (of_z w64 x) ≡ x = to_z-of_z w64 x (grind (arith, ints, is.low, is.high)) in
    wrapping_mul_onto w64 (of_z w64 x) (pos g) (grind (arith, ints, is.low, is.high)) (grind (arith, ints, most))
    ∙ rw kept (int_wrap_fits w64 (x *ℤ pos g) (grind (arith, ints, low, high, most)))

shifted_is : (m : ℕ) (x : ℤ) (g : ℕ) → to_z w64 m ≡ x *ℤ pos g → shifted m 16 ≡ of_z w64 (scale x g)
shifted_is m x g is =
    let quotient : shr_z (x *ℤ pos g) 65536 ≡ scale x g = search rules in
    ap (λ z. of_z w64 (shr_z z 65536)) is ∙ ap (of_z w64) quotient

total_is : (a y : ℤ) → IsWithin (2 ^ 62) a → IsScaled y → to_z w64 (total (of_z w64 a) (of_z w64 y)) ≡ a +ℤ y
total_is a y within scaled =
    let kept : to_z w64 (of_z w64 a) ≡ a = to_z-of_z w64 a (grind (arith, ints, within.low, within.high)) in
    wrapping_add_onto w64 (of_z w64 a) y (grind (arith, ints, within.low, within.high)) (grind (arith, ints, scaled.low, scaled.high))
    ∙ rw kept (int_wrap_fits w64 (a +ℤ y) (grind (arith, ints, within.low, within.high, scaled.low, scaled.high)))

lane_value : (a x : ℤ) (g : ℕ) → IsWithin (2 ^ 62) a → Is24 x → g ≤ largest_gain
    → to_z w64 (total (of_z w64 a) (shifted (product (widened (of_z w32 x)) (of_z w64 (pos g))) 16)) ≡ a +ℤ scale x g
lane_value a x g within is most =
    rw (widened_is x is, shifted_is (product (of_z w64 x) (of_z w64 (pos g))) x g (product_is x g is most))
    (total_is a (scale x g) within (scale_range x (scale x g) g refl is most))

-- what the widening of each lane asks
pub casts : (from : ℕ) (xs : List ℤ) → Each1 (Asks1 (cast signed signed w64) (s_int w32)) (map (of_z w32) (chunk from 8 xs))
casts from xs = each (chunk from 8 xs)
  where
    each : (ys : List ℤ) → Each1 (Asks1 (cast signed signed w64) (s_int w32)) (map (of_z w32) ys)
    each [] = tt
    each (y ∷ ys) = (grind (arith, ints), each ys)

-- the sums after eight lanes were stored
module _ (from g : ℕ) (old xs : List ℤ) (b : ℤ) (is : b ≡ pos g) (most : g ≤ largest_gain) (sums_there : from + 8 ≤ length old) (samples_there : from + 8 ≤ length xs)
    (samples : (j : ℕ) → from ≤ j → j < from + 8 → Is24 (at xs j)) (sums : (j : ℕ) → from ≤ j → j < from + 8 → IsWithin (2 ^ 62) (at old j)) where
  abbrev lanes : List ℤ
  lanes = all_lanes (to_z w64) (of_z w64) (of_z w32) widened total shifted product (chunk from 8 old) (chunk from 8 xs) (replicate 8 (of_z w64 b)) (replicate 8 16)

  eight : length lanes ≡ 8
  eight = count_lanes (to_z w64) (of_z w64) (of_z w32) widened total shifted product 8 (chunk from 8 old) (chunk from 8 xs) (replicate 8 (of_z w64 b)) (replicate 8 16)
      (length-chunk from 8 old sums_there) (length-chunk from 8 xs samples_there) refl refl

  lane : (k : ℕ) → k < 8 → get_or lanes k (pos 0) ≡ at old (from + k) +ℤ scale (at xs (from + k)) g
  lane k below =
      one_lane (to_z w64) (of_z w64) (of_z w32) widened total shifted product (chunk from 8 old) (chunk from 8 xs) (replicate 8 (of_z w64 b)) (replicate 8 16) k
      (omega (arith, length-chunk from 8 old sums_there, below)) (omega (arith, length-chunk from 8 xs samples_there, below)) below below
      ∙ rw (get_or-chunk from 8 old k (pos 0) below, get_or-chunk from 8 xs k (pos 0) below, get_or-replicate {A = ℕ} 8 k (of_z w64 b) 0 below, get_or-replicate {A = ℕ} 8 k 16 0 below, is)
      (lane_value (at old (from + k)) (at xs (from + k)) g (sums (from + k) (omega arith) (omega (arith, below))) (samples (from + k) (omega arith) (omega (arith, below))) most)

  pub lanes_stored : MixedIn from 8 g old xs (put_chunk from old lanes)
  lanes_stored = record {
    inside = λ j low high.
        let k : ℕ = j - from in
        let there : from + k ≡ j = omega (arith, low) in
        subst (λ i. get_or (put_chunk from old lanes) i (pos 0) ≡ at old i +ℤ scale (at xs i) g) there
        (get_or-put_chunk_at from old lanes k (pos 0) (omega (arith, eight, high, low)) (omega (arith, eight, sums_there)) ∙ lane k (omega (arith, high, low)));
    outside = λ j apart. by j apart;
  }
    where
      by : (j : ℕ) → (j < from) ⊎ (from + 8 ≤ j) → at (put_chunk from old lanes) j ≡ at old j
      by j (inl low) = get_or-put_chunk_below from old lanes j (pos 0) low
      by j (inr high) = get_or-put_chunk_above from old lanes j (pos 0) (omega (arith, eight, high))

-- ---- the sum of one place

apart_from : (i j : ℕ) → j ≡ i → (j < i) ⊎ (i + 1 ≤ j) → ⊥
apart_from i j e (inl low) = omega (arith, e, low)
apart_from i j e (inr high) = omega (arith, e, high)

pub one_stored : (i g : ℕ) (old xs : List ℤ) (value : ℤ) → i < length old → value ≡ at old i +ℤ scale (at xs i) g → MixedIn i 1 g old xs (set old i value)
one_stored i g old xs value there is = record {
  inside = λ j low high. let same : i ≡ j = omega (arith, low, high) in
      subst (λ k. at (set old i value) k ≡ at old k +ℤ scale (at xs k) g) same (rw get_or-set_same is);
  outside = λ j apart. let other : j ≢ i = λ e. apart_from i j e apart in rw get_or-set_other refl;
}

-- the value that is written there
pub one_value : (a x share : ℤ) (g : ℕ) → IsWithin (2 ^ 62) a → IsScaled share → share ≡ scale x g
    → to_z w64 (of_z w64 (to_z w64 (of_z w64 a) +ℤ to_z w64 (of_z w64 share))) ≡ a +ℤ scale x g
one_value a x share g within scaled share_is = omega (arith, ints, within.low, within.high, scaled.low, scaled.high, share_is)

pub share_value : (x y share : ℤ) (g : ℕ) → Is24 x → IsScaled y → y ≡ scale (to_z w32 (of_z w32 x)) g → share ≡ to_z w32 (of_z w32 y) → (share ≡ scale x g) × IsScaled share
share_value x y share g is scaled value widened =
    let kept : to_z w32 (of_z w32 x) ≡ x = to_z-of_z w32 x (grind (arith, ints, is.low, is.high)) in
    let same : share ≡ y = widened ∙ to_z-of_z w32 y (grind (arith, ints, scaled.low, scaled.high)) in
    (same ∙ value ∙ ap (λ v. scale v g) kept, rw same scaled)

-- ---- the first places, and then those behind them

pub then_more : (m n g : ℕ) (old xs mid new : List ℤ) → MixedIn 0 m g old xs mid → MixedIn m n g mid xs new → MixedIn 0 (m + n) g old xs new
then_more m n g old xs mid new first second = record {
  inside = λ j low high. by j high (ltb j m) refl;
  outside = λ j apart. past j apart;
}
  where
    by : (j : ℕ) → j < 0 + (m + n) → (b : Bool) → ltb j m ≡ b → at new j ≡ at old j +ℤ scale (at xs j) g
    by j high true e = let below = ltb-true j m e in second.outside j (inl below) ∙ first.inside j (omega arith) (omega (arith, below))
    by j high false e =
        let above = ltb-false j m e in
        second.inside j above (omega (arith, high)) ∙ ap (λ v. v +ℤ scale (at xs j) g) (first.outside j (inr (omega (arith, above))))

    past : (j : ℕ) → (j < 0) ⊎ (0 + (m + n) ≤ j) → at new j ≡ at old j
    past j (inl low) = absurd (omega (arith, low))
    past j (inr high) = second.outside j (inr (omega (arith, high))) ∙ first.outside j (inr (omega (arith, high)))

pub none_mixed : (g : ℕ) (old xs : List ℤ) → MixedIn 0 0 g old xs old
none_mixed g old xs = record { inside = λ j low high. absurd (omega (arith, high)); outside = λ j apart. refl }
