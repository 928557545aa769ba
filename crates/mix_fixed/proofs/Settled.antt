-- Samples of sums, eight at a time.
use Rattle.std.proofs.Common.{◌≡◌, ◌≢◌, ◌∙◌, ◌⊎◌, ℕ, zero, suc, ◌+◌, ◌-◌, ◌<◌, ◌≤◌, ℤ, pos, negsuc, List, [], ◌∷◌, length, get_or, set, get_or-set_same, get_or-set_other, refl, ap, subst, inl, inr, w32, w64, to_z, of_z, arith, Bool, true, false, ltb, cond}
use Rattle.std.proofs.lemmas.Bool.{ltb-true, ltb-false}
use Rattle.std.proofs.lemmas.Int.{ints}
use Rattle.std.proofs.lemmas.Simd.{get_or-put_chunk_at, get_or-put_chunk_below, get_or-put_chunk_above}
use Rattle.std.specs.Int.Signed.{lt_z}
use lib.Lanes.{put_chunk, top}
use Rattle.mix_fixed.specs.Kernels.{at, SettledIn}
use Rattle.mix_fixed.specs.Sound.{Is24, sat24}

-- ---- the value of a lane: the greater of it and the least sample, and the lesser of that and the greatest sample

abbrev raised : ℤ → ℕ
raised a = cond (top 63 (cond (lt_z (to_z w64 (of_z w64 a)) (negsuc 8388607)) 18446744073709551615 0)) 18446744073701163008 (of_z w64 a)

abbrev lowered : ℕ → ℕ
lowered n = cond (top 63 (cond (lt_z (to_z w64 n) (pos 8388607)) 18446744073709551615 0)) n 8388607

abbrev pub lane : ℤ → ℤ
lane a = to_z w32 (of_z w32 (to_z w64 (lowered (raised a))))

abbrev narrowed : ℕ → ℤ
narrowed m = to_z w32 (of_z w32 (to_z w64 m))

not_raised : (n : ℕ) → to_z w64 (of_z w64 (pos n)) ≡ pos n → raised (pos n) ≡ of_z w64 (pos n)
not_raised n kept = rw kept refl

not_lowered : (m : ℕ) (z : ℤ) → to_z w64 m ≡ z → lt_z z (pos 8388607) ≡ true → lowered m ≡ m
not_lowered m z is less = rw (is, less) refl

is_lowered : (m : ℕ) (z : ℤ) → to_z w64 m ≡ z → lt_z z (pos 8388607) ≡ false → lowered m ≡ 8388607
is_lowered m z is more = rw (is, more) refl

above : (n : ℕ) (t : Bool) → ltb n 8388607 ≡ t → to_z w64 (of_z w64 (pos n)) ≡ pos n → lane (pos n) ≡ sat24 (pos n)
above n true e kept =
    let small = ltb-true n 8388607 e in
    ap (λ m. narrowed (lowered m)) (not_raised n kept) ∙ ap narrowed (not_lowered (of_z w64 (pos n)) (pos n) kept e)
    ∙ ap (λ z. to_z w32 (of_z w32 z)) kept ∙ grind (arith, ints, small)
above n false e kept =
    let large = ltb-false n 8388607 e in
    ap (λ m. narrowed (lowered m)) (not_raised n kept) ∙ ap narrowed (is_lowered (of_z w64 (pos n)) (pos n) kept e) ∙ grind (arith, ints, large)

below : (n : ℕ) (t : Bool) → ltb 8388607 n ≡ t → to_z w64 (of_z w64 (negsuc n)) ≡ negsuc n → lane (negsuc n) ≡ sat24 (negsuc n)
below n true e kept = let large = ltb-true 8388607 n e in rw (kept, e) (grind (arith, ints, large))
below n false e kept = let small = ltb-false 8388607 n e in rw (kept, e, kept) (grind (arith, ints, small, kept))

pub lane_is : (a : ℤ) → to_z w64 (of_z w64 a) ≡ a → lane a ≡ sat24 a
lane_is (pos n) kept = above n (ltb n 8388607) refl kept
lane_is (negsuc n) kept = below n (ltb 8388607 n) refl kept

-- ---- lanes that are stored

-- the lanes are the samples of the sums from the place from + i on
abbrev pub AreNearest : ℕ → ℕ → List ℤ → List ℤ → Type 0
AreNearest from i sums [] = Unit {0}
AreNearest from i sums (y ∷ ys) = (y ≡ sat24 (at sums (from + i))) × AreNearest from (i + 1) sums ys

nearest_at : (from i : ℕ) (sums ys : List ℤ) → AreNearest from i sums ys → (k : ℕ) → k < length ys → get_or ys k (pos 0) ≡ sat24 (at sums (from + (i + k)))
nearest_at from i sums [] are k there = absurd (omega (arith, there))
nearest_at from i sums (y ∷ ys) are zero there = are.0 ∙ ap (λ j. sat24 (at sums j)) (omega arith)
nearest_at from i sums (y ∷ ys) are (suc k) there = nearest_at from (i + 1) sums ys are.1 k (omega (arith, there)) ∙ ap (λ j. sat24 (at sums j)) (omega arith)

pub settled_stored : (from : ℕ) (sums old ys : List ℤ) → length ys ≡ 8 → from + 8 ≤ length old → AreNearest from 0 sums ys → SettledIn from 8 sums old (put_chunk from old ys)
settled_stored from sums old ys eight room are = record {
  inside = λ j low high.
      let k : ℕ = j - from in
      let there : from + k ≡ j = omega (arith, low) in
      subst (λ i. get_or (put_chunk from old ys) i (pos 0) ≡ sat24 (at sums i)) there
      (get_or-put_chunk_at from old ys k (pos 0) (omega (arith, eight, high, low)) (omega (arith, eight, room)) ∙ nearest_at from 0 sums ys are k (omega (arith, eight, high, low)) ∙ ap (λ i. sat24 (at sums (from + i))) (omega arith));
  outside = λ j apart. by j apart;
}
  where
    by : (j : ℕ) → (j < from) ⊎ (from + 8 ≤ j) → at (put_chunk from old ys) j ≡ at old j
    by j (inl low) = get_or-put_chunk_below from old ys j (pos 0) low
    by j (inr high) = get_or-put_chunk_above from old ys j (pos 0) (omega (arith, eight, high))

-- ---- the sample of one place

pub sat24_range : (x : ℤ) → Is24 (sat24 x)
sat24_range (pos n) = record { low = grind (arith, ints); high = grind (arith, ints) }
sat24_range (negsuc n) = record { low = grind (arith, ints); high = grind (arith, ints) }

-- the value that is written there
pub one_sample : (a y : ℤ) → to_z w64 (of_z w64 a) ≡ a → Is24 y → y ≡ sat24 (to_z w64 (of_z w64 a)) → to_z w32 (of_z w32 y) ≡ sat24 a
one_sample a y kept is nearest =
    let same : to_z w32 (of_z w32 y) ≡ y = omega (arith, ints, is.low, is.high) in
    same ∙ nearest ∙ ap sat24 kept

apart_from : (i j : ℕ) → j ≡ i → (j < i) ⊎ (i + 1 ≤ j) → ⊥
apart_from i j e (inl low) = omega (arith, e, low)
apart_from i j e (inr high) = omega (arith, e, high)

pub one_settled : (i : ℕ) (sums old : List ℤ) (value : ℤ) → i < length old → value ≡ sat24 (at sums i) → SettledIn i 1 sums old (set old i value)
one_settled i sums old value there is = record {
  inside = λ j low high. let same : i ≡ j = omega (arith, low, high) in subst (λ k. at (set old i value) k ≡ sat24 (at sums k)) same (rw get_or-set_same is);
  outside = λ j apart. let other : j ≢ i = λ e. apart_from i j e apart in rw get_or-set_other refl;
}

-- ---- the first places, and then those behind them

pub none_settled : (sums old : List ℤ) → SettledIn 0 0 sums old old
none_settled sums old = record { inside = λ j low high. absurd (omega (arith, high)); outside = λ j apart. refl }

pub then_settled : (m n : ℕ) (sums old mid new : List ℤ) → SettledIn 0 m sums old mid → SettledIn m n sums mid new → SettledIn 0 (m + n) sums old new
then_settled m n sums old mid new first second = record {
  inside = λ j low high. by j high (ltb j m) refl;
  outside = λ j apart. past j apart;
}
  where
    by : (j : ℕ) → j < 0 + (m + n) → (b : Bool) → ltb j m ≡ b → at new j ≡ sat24 (at sums j)
    by j high true e = let below = ltb-true j m e in second.outside j (inl below) ∙ first.inside j (omega arith) (omega (arith, below))
    by j high false e = second.inside j (ltb-false j m e) (omega (arith, high))

    past : (j : ℕ) → (j < 0) ⊎ (0 + (m + n) ≤ j) → at new j ≡ at old j
    past j (inl low) = absurd (omega (arith, low))
    past j (inr high) = second.outside j (inr (omega (arith, high))) ∙ first.outside j (inr (omega (arith, high)))
