-- A file's sound at a scene's rate, in frames a second, and in its channels.
use Rattle.std.specs.Prelude.{ℕ, ◌+◌, ℤ, pos, List, [], length, map, slice_index_or, Result, Ok, Err}
use Rattle.std.specs.List.{range_with_len}
use Rattle.clip_decode.specs.Frames.{frames}
use Rattle.rate_fit.specs.Blend.{blended}
use Rattle.rate_fit.specs.Channels.{in_channels}
use Rattle.rate_fit.specs.Conversion.{clip_len}
use Rattle.rate_fit.specs.Points.{point_at}
use Rattle.wave_read.specs.Wave.{wave}
use Rattle.wave_read.specs.declared.wave.Wave.{Wave}
use Rattle.wave_read.specs.declared.wave_fault.WaveFault.{WaveFault}

-- each frame in so many channels
abbrev pub all_in_channels : ℕ → List (List ℤ) → List (List ℤ)
all_in_channels channels frames = map (in_channels channels) frames

-- the sample of channel c in frame n. Past the end it is 0, as is the frame that the last one is blended with
abbrev pub sample_or_zero : List (List ℤ) → ℕ → ℕ → ℤ
sample_or_zero frames n c = slice_index_or (slice_index_or frames n []) c (pos 0)

-- the sample of channel c in frame n after conversion from input_rate to output_rate: between the two frames where it lies
abbrev pub sample_at_rate : ℕ → ℕ → List (List ℤ) → ℕ → ℕ → ℤ
sample_at_rate input_rate output_rate frames n c =
    let p = point_at input_rate output_rate n in
    blended (sample_or_zero frames p.first c) (sample_or_zero frames (p.first + 1) c) p.weight output_rate

-- frames of so many channels, from the rate input_rate to output_rate
abbrev pub frames_at_rate : ℕ → ℕ → ℕ → List (List ℤ) → List (List ℤ)
frames_at_rate input_rate output_rate channels frames =
    map (λ n. map (sample_at_rate input_rate output_rate frames n) (range_with_len 0 channels))
    (range_with_len 0 (clip_len (length frames) input_rate output_rate))

-- the rate of a file. One that is refused has no frames, and this one stands for any
abbrev pub rate_said : Result Wave WaveFault → ℕ
rate_said (Ok w) = w.rate
rate_said (Err fault) = 1

abbrev pub file_rate : List ℕ → ℕ
file_rate bytes = rate_said (wave bytes)

-- the frames of a file at a scene's rate and in its channels: first the channels are converted, then the rate
unfoldable pub clip_frames : List ℕ → ℕ → ℕ → List (List ℤ)
clip_frames bytes rate channels = frames_at_rate (file_rate bytes) rate channels (all_in_channels channels (frames bytes))

-- how many they are
unfoldable pub clip_length : List ℕ → ℕ → ℕ
clip_length bytes rate = clip_len (length (frames bytes)) (file_rate bytes) rate

-- their samples, by the numbers of frame and channel
unfoldable pub clip_sample : List ℕ → ℕ → ℕ → ℕ → ℕ → ℤ
clip_sample bytes rate channels n c = sample_at_rate (file_rate bytes) rate (all_in_channels channels (frames bytes)) n c
