-- A file's frames at a scene's rate and in its channels.
use Rattle.std.proofs.Common.{◌≡◌, ℕ, List, [], length, map, ap, arith}
use Rattle.std.specs.Prelude.{Err}
use Rattle.std.specs.List.{range_with_len}
use Rattle.std.proofs.lemmas.List.{length-map}
use Rattle.clip_decode.specs.Frames.{frames, HasSamples}
use Rattle.clip_decode.proofs.FrameLists.{has_samples}
use Rattle.rate_fit.specs.Channels.{in_channels}
use Rattle.rate_fit.specs.Conversion.{clip_len}
use Rattle.wave_read.specs.Wave.{wave}
use Rattle.wave_read.specs.declared.wave_fault.WaveFault.{WaveFault}
use Rattle.scene_clips.specs.ClipFrames.{sample_at_rate, all_in_channels, file_rate, clip_frames, clip_length, clip_sample}

pub list_has_samples : (bytes : List ℕ) (rate channels : ℕ)
    → HasSamples (clip_length bytes rate) channels (clip_sample bytes rate channels) (clip_frames bytes rate channels)
unfolding clip_frames clip_length clip_sample
list_has_samples bytes rate channels =
    let count : length (all_in_channels channels (frames bytes)) ≡ length (frames bytes) = length-map (frames bytes) (in_channels channels) in
    rw count
    (has_samples (sample_at_rate (file_rate bytes) rate (all_in_channels channels (frames bytes)))
    (clip_len (length (frames bytes)) (file_rate bytes) rate) channels)

no_frames_long : (rate : ℕ) → clip_len 0 1 rate ≡ 0
no_frames_long rate = omega arith

pub no_clip_frames : (bytes : List ℕ) (rate channels : ℕ) (fault : WaveFault) → wave bytes ≡ Err fault → clip_frames bytes rate channels ≡ []
unfolding clip_frames frames
no_clip_frames bytes rate channels fault refused =
    rw refused
    (ap (λ n. map (λ k. map (sample_at_rate 1 rate [] k) (range_with_len 0 channels)) (range_with_len 0 n)) (no_frames_long rate))

pub no_length : (bytes : List ℕ) (rate : ℕ) (fault : WaveFault) → wave bytes ≡ Err fault → clip_length bytes rate ≡ 0
unfolding clip_length frames
no_length bytes rate fault refused = rw refused (no_frames_long rate)
