-- Sums of samples by a gain, and samples of sums, place by place.
use Rattle.std.specs.Prelude.{◌≡◌, ◌⊎◌, ℕ, ◌+◌, ◌*◌, ◌<◌, ◌≤◌, ℤ, pos, neg_ℤ, ◌+ℤ◌, ◌≤ℤ◌, List, length, slice_index_or}
use Rattle.mix_fixed.specs.Sound.{Is24, sat24, scale}

abbrev pub at : List ℤ → ℕ → ℤ
at xs j = slice_index_or xs j (pos 0)

-- each is a sample of 24 bits
abbrev pub AreSamples : List ℤ → Type 0
AreSamples xs = (j : ℕ) → j < length xs → Is24 (at xs j)

-- x is at most so far from 0
pub record IsWithin (most : ℕ) (x : ℤ) : Type 0 where
  pub low : neg_ℤ (pos most) ≤ℤ x
  pub high : x ≤ℤ pos most

abbrev pub AreWithin : ℕ → List ℤ → Type 0
AreWithin most sums = (j : ℕ) → j < length sums → IsWithin most (at sums j)

-- a sample of 24 bits by the gain is at most so far from 0
abbrev pub most_share : ℕ → ℕ
most_share gain = 128 * gain

-- a sum of 32 bits is at most so far from 0 before a sample is added to it: 2^31 - 2^28, which leaves room for a sample by
-- any gain
abbrev pub most_narrow_sum : ℕ
most_narrow_sum = 1879048192

-- each sum has grown by the sample at its place, by the gain
abbrev pub IsMixed : ℕ → List ℤ → List ℤ → List ℤ → Type 0
IsMixed gain old samples new = (j : ℕ) → j < length old → at new j ≡ at old j +ℤ scale (at samples j) gain

-- the sums of these many places have, and those at the others are as they were
pub record MixedIn (from count gain : ℕ) (old samples new : List ℤ) : Type 0 where
  pub inside : (j : ℕ) → from ≤ j → j < from + count → at new j ≡ at old j +ℤ scale (at samples j) gain
  pub outside : (j : ℕ) → (j < from) ⊎ (from + count ≤ j) → at new j ≡ at old j

-- each is the sample of 24 bits that is nearest to the sum at its place
abbrev pub IsSettled : List ℤ → List ℤ → Type 0
IsSettled sums out = (j : ℕ) → j < length sums → at out j ≡ sat24 (at sums j)

-- the samples of these many places are, and those at the others are as they were
pub record SettledIn (from count : ℕ) (sums old new : List ℤ) : Type 0 where
  pub inside : (j : ℕ) → from ≤ j → j < from + count → at new j ≡ sat24 (at sums j)
  pub outside : (j : ℕ) → (j < from) ⊎ (from + count ≤ j) → at new j ≡ at old j
