-- What decoding writes, place by place.
use Rattle.std.specs.Prelude.{◌≡◌, ℕ, ◌+◌, ◌*◌, ◌<◌, ℤ, pos, List, take, drop, slice_index_or}
use Rattle.mix_fixed.specs.Sound.{Is24}
use Rattle.ima_adpcm.specs.Frames.{FramesAre}

-- the first n cells are numbers of 24 bits
pub record Are24 (n : ℕ) (cells : List ℤ) : Type 0 where
  pub each : (i : ℕ) → i < n → Is24 (slice_index_or cells i (pos 0))

-- the first n cells are the samples in the first n containers of some bytes
pub record ContainersDecoded (value : List ℕ → ℤ) (size : ℕ) (bytes : List ℕ) (n : ℕ) (cells : List ℤ) : Type 0 where
  pub samples : (i : ℕ) → i < n → slice_index_or cells i (pos 0) ≡ value (take size (drop (size * i) bytes))
  pub range : (i : ℕ) → i < n → Is24 (slice_index_or cells i (pos 0))

-- n cells from place `at` on are samples of 24 bits, and those before them are as before
pub record Appended (at n : ℕ) (sample : ℕ → ℤ) (old new : List ℤ) : Type 0 where
  pub before : (i : ℕ) → i < at → slice_index_or new i (pos 0) ≡ slice_index_or old i (pos 0)
  pub samples : (i : ℕ) → i < n → slice_index_or new (at + i) (pos 0) ≡ sample i
  pub range : (i : ℕ) → i < n → Is24 (slice_index_or new (at + i) (pos 0))

-- the first n frames are written, interleaved, as samples of 24 bits
pub record Written (channels n : ℕ) (sample : ℕ → ℕ → ℤ) (cells : List ℤ) : Type 0 where
  pub frames : FramesAre channels n sample cells
  pub range : Are24 (n * channels) cells
