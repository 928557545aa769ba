-- What effects make of the frames of a sound file, and the WAVE file of it.
use Rattle.std.specs.Prelude.{ℕ, ◌+◌, ℤ, List, ◌++◌, map}
use Rattle.std.specs.List.{range_with_len}
use Rattle.clip_decode.specs.Frames.{frames, interleaved}
use Rattle.fx_nodes.specs.Effects.{chain_value}
use Rattle.fx_nodes.specs.declared.effect.Effect.{Effect}
use Rattle.mix_model.specs.Summary.{summary}
use Rattle.mix_model.specs.declared.summary.Summary.{Summary}
use Rattle.scene_clips.specs.ClipFrames.{all_in_channels, file_rate}
use Rattle.scene_clips.specs.FilePages.{frame_or_silence}
use Rattle.wave_write.specs.Header.{header, data_bytes}
use Rattle.wave_write.specs.Samples.{packed}

-- the most frames that effects are heard on
abbrev pub most_frames : ℕ
most_frames = 16777216

-- effects are heard in two channels, and written at 24 bits
abbrev pub stereo : ℕ
stereo = 2

abbrev pub width : ℕ
width = 24

-- the frames of a file in two channels, from number `from` on, `count` of them: past its end they are of 0
abbrev pub stereo_frames : List ℕ → ℕ → ℕ → List (List ℤ)
stereo_frames bytes from count = map (frame_or_silence stereo (all_in_channels stereo (frames bytes))) (range_with_len from count)

-- what effects make of the first frames of a file, one after the other: interleaved samples
abbrev pub effected : List ℕ → List Effect → ℕ → List ℤ
effected bytes effects count = chain_value effects (interleaved (stereo_frames bytes 0 count))

-- The WAVE file of it, at the file's rate: the header and the packed samples. Frames of six bytes have an even number of
-- bytes, so that no pad byte follows.
abbrev pub effected_wav : List ℕ → List Effect → ℕ → List ℕ
effected_wav bytes effects count = header stereo (file_rate bytes) width count ++ packed width (effected bytes effects count)

-- its summary
abbrev pub effected_summary : List ℕ → List Effect → ℕ → Summary
effected_summary bytes effects count = summary (effected bytes effects count) (packed width (effected bytes effects count))

-- the bytes of that file: those of the header and of the samples
abbrev pub file_bytes : ℕ → ℕ
file_bytes count = 44 + data_bytes stereo width count
