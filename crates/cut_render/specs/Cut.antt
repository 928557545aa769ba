-- What is cut from a sound file, and the WAVE file of it.
use Rattle.std.specs.Prelude.{ℕ, ◌+◌, ◌==◌, ℤ, List, ◌++◌, map, if◌then◌else◌}
use Rattle.std.specs.List.{range_with_len, flat_map}
use Rattle.clip_decode.specs.Frames.{frames, interleaved}
use Rattle.mix_model.specs.Output.{padding}
use Rattle.mix_model.specs.Summary.{summary}
use Rattle.mix_model.specs.declared.summary.Summary.{Summary}
use Rattle.scene_clips.specs.ClipFrames.{all_in_channels, file_rate}
use Rattle.scene_clips.specs.FilePages.{frame_or_silence}
use Rattle.scene_clips.specs.Unchanged.{file_channels}
use Rattle.wave_write.specs.Header.{header, data_bytes, pad_bytes}
use Rattle.wave_write.specs.Samples.{packed}
use Rattle.cut_render.specs.Segments.{total_frames}
use Rattle.cut_render.specs.declared.segment.Segment.{Segment}

-- a cut is written at 24 bits
abbrev pub width : ℕ
width = 24

-- in one channel where the file has one, and else in two
abbrev pub channels_for : ℕ → ℕ
channels_for channels = if channels == 1 then 1 else 2

abbrev pub cut_channels : List ℕ → ℕ
cut_channels bytes = channels_for (file_channels bytes)

-- frame n of a file in these channels: past its end it is of 0
abbrev pub cut_frame : List ℕ → ℕ → List ℤ
cut_frame bytes n = frame_or_silence (cut_channels bytes) (all_in_channels (cut_channels bytes) (frames bytes)) n

-- the samples of `count` frames of a file from frame `place` on, interleaved
abbrev pub piece : List ℕ → ℕ → ℕ → List ℤ
piece bytes place count = interleaved (map (cut_frame bytes) (range_with_len place count))

-- those of segments, one after the other
abbrev pub cut_samples : List ℕ → List Segment → List ℤ
cut_samples bytes segments = flat_map (λ (segment : Segment). piece bytes segment.place segment.count) segments

-- The WAVE file of segments of a file, at its rate: the header, the packed samples, and the pad byte if there is one.
unfoldable pub cut_wav : List ℕ → List Segment → List ℕ
cut_wav bytes segments =
    header (cut_channels bytes) (file_rate bytes) width (total_frames segments)
    ++ packed width (cut_samples bytes segments)
    ++ padding (data_bytes (cut_channels bytes) width (total_frames segments))

-- the summary of samples that are written
abbrev pub summary_of : List ℤ → Summary
summary_of samples = summary samples (packed width samples)

abbrev pub cut_summary : List ℕ → List Segment → Summary
cut_summary bytes segments = summary_of (cut_samples bytes segments)

-- the bytes of the file of so many frames in so many channels: those of the header, of the samples and the pad byte
abbrev pub file_bytes : ℕ → ℕ → ℕ
file_bytes channels count = 44 + data_bytes channels width count + pad_bytes (data_bytes channels width count)
