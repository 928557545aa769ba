-- The frames of a file, as lists of one number of 24 bits a channel.
use Rattle.std.specs.Prelude.{◌≡◌, ℕ, ◌<◌, ℤ, pos, List, [], length, map, All, slice_index_or, Result, Ok, Err}
use Rattle.std.specs.List.{range_with_len, flat_map}
use Rattle.wave_read.specs.Wave.{wave}
use Rattle.wave_read.specs.declared.wave.Wave.{Wave}
use Rattle.wave_read.specs.declared.wave_fault.WaveFault.{WaveFault}
use Rattle.clip_decode.specs.Samples.{sample_of}

-- a frame is the list of its channels' samples
abbrev pub frame_by : (ℕ → ℤ) → ℕ → List ℤ
frame_by sample channels = map sample (range_with_len 0 channels)

abbrev pub frames_by : (ℕ → ℕ → ℤ) → ℕ → ℕ → List (List ℤ)
frames_by sample frames channels = map (λ frame. frame_by (sample frame) channels) (range_with_len 0 frames)

abbrev pub frames_said : List ℕ → Result Wave WaveFault → List (List ℤ)
frames_said bytes (Err fault) = []
frames_said bytes (Ok w) = frames_by (sample_of bytes w) w.frames w.channels

-- the frames of a file. One that is refused has none
unfoldable pub frames : List ℕ → List (List ℤ)
frames bytes = frames_said bytes (wave bytes)

-- the samples of frames, one frame after the other
unfoldable pub interleaved : List (List ℤ) → List ℤ
interleaved frames = flat_map (λ frame. frame) frames

-- these are so many frames of so many channels, with each sample by the numbers of its frame and its channel
pub record HasSamples (frames channels : ℕ) (sample : ℕ → ℕ → ℤ) (list : List (List ℤ)) : Type 0 where
  pub count : length list ≡ frames
  pub widths : All (λ frame. length frame ≡ channels) list
  pub samples : (n c : ℕ) → n < frames → c < channels → slice_index_or (slice_index_or list n []) c (pos 0) ≡ sample n c
