-- Samples at places of a list, and a ring of samples.
use Rattle.std.specs.Prelude.{◌≡◌, ◌⊎◌, ℕ, ◌+◌, ◌/◌, ◌%◌, ◌<◌, ◌≤◌, ℤ, pos, List, length, slice_index_or}
use Rattle.mix_fixed.specs.Sound.{sat24, scale}
use Rattle.fx_nodes.specs.Effects.{delayed, fade_gain, pan_gain}

-- the sample at a place, and 0 past the end
abbrev pub sample : List ℤ → ℕ → ℤ
sample xs k = slice_index_or xs k (pos 0)

-- the samples are those of the signal from number s on
abbrev pub Reads : (ℕ → ℤ) → ℕ → List ℤ → Type 0
Reads f s xs = (k : ℕ) → k < length xs → sample xs k ≡ f (s + k)

-- what becomes of a sample x at place k: by a gain, by the gain of its channel, and by that of its frame, where the frame at
-- place 0 has the number `start`
abbrev pub level_rule : ℕ → ℕ → ℤ → ℤ
level_rule gain k x = sat24 (scale x gain)

abbrev pub pan_rule : ℕ → ℕ → ℤ → ℤ
pan_rule place k x = scale x (pan_gain (k % 2) place)

abbrev pub fade_rule : ℕ → ℕ → ℕ → ℕ → ℕ → ℕ → ℤ → ℤ
fade_rule from to first last start k x = sat24 (scale x (fade_gain from to first last (start + k / 2)))

-- the samples from one place to another are those that a rule makes of the old ones there, and the others are as they were
pub record MadeIn (rule : ℕ → ℤ → ℤ) (from to : ℕ) (old new : List ℤ) : Type 0 where
  pub inside : (k : ℕ) → from ≤ k → k < to → sample new k ≡ rule k (sample old k)
  pub outside : (k : ℕ) → (k < from) ⊎ (to ≤ k) → sample new k ≡ sample old k

-- A ring of m samples that has taken the signal's samples before number s: it stands at the place of that number, and holds
-- what a delay line gives for it and the m - 1 numbers behind it.
pub record Holds (f : ℕ → ℤ) (m d s place : ℕ) (ring : List ℤ) : Type 0 where
  pub stands : place ≡ s % m
  pub at : (k : ℕ) → k < m → sample ring ((s + k) % m) ≡ delayed f m d (s + k)
