-- How many bytes are written.
use Rattle.std.proofs.Common.{◌≡◌, ◌∙◌, ◌⊎◌, inl, inr, ℕ, suc, eqb, false, ◌+◌, ◌*◌, ◌%◌, ◌<◌, ◌≤◌, ℤ, pos, List, [], ◌∷◌, length, length-append, append_assoc, refl, ap, sym, arith}
use Rattle.std.specs.Prelude.{Ok, Err, Result, OnOk}
use Rattle.std.proofs.lemmas.Bool.{cases_lt}
use Rattle.std.proofs.lemmas.Bool.Decides.{eqb_tells}
use Rattle.std.proofs.lemmas.List.{length-replicate}
use Rattle.std.proofs.lemmas.List.Sums.{sum_by-cons}
use Rattle.clip_decode.specs.Frames.{frames}
use Rattle.clip_decode.proofs.PageLists.{length_joined}
use Rattle.mix_model.specs.Output.{padding}
use Rattle.mix_model.proofs.HeadersRead.{length_file}
use Rattle.mix_model.proofs.PackedSamples.{length_packed}
use Rattle.rate_fit.specs.Channels.{in_channels}
use Rattle.scene_clips.specs.ClipFrames.{all_in_channels, file_rate}
use Rattle.scene_clips.specs.FilePages.{frame_or_silence}
use Rattle.scene_clips.proofs.FilePages.{frame_wide, frames_counted}
use Rattle.wave_read.specs.Wave.{wave}
use Rattle.wave_read.specs.declared.wave.Wave.{Wave}
use Rattle.wave_write.specs.Header.{data_bytes, header}
use Rattle.wave_write.specs.Samples.{packed}
use Rattle.cut_render.specs.Cut.{channels_for, cut_channels, cut_frame, cut_samples, cut_wav, file_bytes, piece}
use Rattle.cut_render.specs.Segments.{total_frames}
use Rattle.cut_render.specs.declared.segment.Segment.{Segment}
use Rattle.cut_render.proofs.Frames.{channels_are, converted, silent_frame}

not_one : (n : ℕ) → eqb (suc (suc n)) 1 ≡ false
not_one n = elim (eqb_tells (suc (suc n)) 1) [
  | inl (same, is) ↦ absurd (omega (arith, is))
  | inr (other, differs) ↦ other
]

-- a frame that has a sample, in one channel or two
some_width : (frame : List ℤ) → 1 ≤ length frame → length (in_channels (channels_for (length frame)) frame) ≡ channels_for (length frame)
some_width [] some = absurd (omega (arith, some))
some_width (x ∷ []) some = refl
some_width (x ∷ y ∷ rest) some = rw (not_one (length rest)) refl

wide : (frame : List ℤ) (w : ℕ) → length frame ≡ w → 1 ≤ w → length (in_channels (channels_for w) frame) ≡ channels_for w
wide frame w is some =
    ap (λ n. length (in_channels (channels_for n) frame)) (sym is) ∙ some_width frame (omega (arith, is, some)) ∙ ap channels_for is

frame_width : (bytes : List ℕ) (w : Wave) (n : ℕ) → wave bytes ≡ Ok w → 1 ≤ w.channels → length (cut_frame bytes n) ≡ channels_for w.channels
frame_width bytes w n said some = by_place (cases_lt n w.frames)
  where
    by_place : (n < w.frames) ⊎ (w.frames ≤ n) → length (cut_frame bytes n) ≡ channels_for w.channels
    by_place (inl below) =
        ap (λ c. length (frame_or_silence c (all_in_channels c (frames bytes)) n)) (channels_are bytes w said)
        ∙ ap length (sym (converted (channels_for w.channels) (frames bytes) n w.channels (omega (arith, below, frames_counted bytes w said))))
        ∙ wide (frame_or_silence w.channels (frames bytes) n) w.channels (frame_wide bytes w n said below) some
    by_place (inr past) = ap length (silent_frame bytes w n said past) ∙ length-replicate (channels_for w.channels) (pos 0)

-- the samples of each frame of each segment
samples_counted : (bytes : List ℕ) (w : Wave) (segments : List Segment) → wave bytes ≡ Ok w → 1 ≤ w.channels
    → length (cut_samples bytes segments) ≡ total_frames segments * channels_for w.channels
samples_counted bytes w [] said some = omega arith
samples_counted bytes w (segment ∷ rest) said some =
    let channels = channels_for w.channels in
    let first = piece bytes segment.place segment.count in
    let more : length (cut_samples bytes (segment ∷ rest)) ≡ length first + length (cut_samples bytes rest) = length-append first (cut_samples bytes rest) in
    let one : length first ≡ segment.count * channels =
    length_joined (cut_frame bytes) channels (λ n. frame_width bytes w n said some) segment.place segment.count in
    let all : total_frames (segment ∷ rest) ≡ segment.count + total_frames rest = sum_by-cons (λ (s : Segment). s.count) segment rest in
    let spread : (segment.count + total_frames rest) * channels ≡ segment.count * channels + total_frames rest * channels = omega arith in
    omega (arith, more, one, samples_counted bytes w rest said some, ap (λ n. n * channels) all, spread)

-- what is true is so where there is an answer
pub on_ok : {T E P : Type 0} (r : Result T E) → P → OnOk r P
on_ok (Ok x) p = p
on_ok (Err e) p = tt

-- the header, three bytes for each sample, and the pad byte
pub wav-size : (bytes : List ℕ) (w : Wave) (segments : List Segment) → wave bytes ≡ Ok w → 1 ≤ w.channels
    → length (cut_wav bytes segments) ≡ file_bytes (cut_channels bytes) (total_frames segments)
unfolding cut_wav
wav-size bytes w segments said some =
    let count = total_frames segments in
    let channels = cut_channels bytes in
    let samples = cut_samples bytes segments in
    let sound = packed 24 samples in
    let pad = padding (data_bytes channels 24 count) in
    let many : length samples ≡ count * channels = samples_counted bytes w segments said some ∙ ap (λ c. count * c) (sym (channels_are bytes w said)) in
    let three : length sound ≡ length samples * 3 = length_packed 24 samples refl in
    let padded : length pad ≡ data_bytes channels 24 count % 2 = length-replicate (data_bytes channels 24 count % 2) 0 in
    let joined = append_assoc (header channels (file_rate bytes) 24 count) sound pad in
    let thrice : count * channels * 3 ≡ data_bytes channels 24 count = omega arith in
    ap length joined ∙ omega (arith, many, three, thrice, padded, length-append sound pad, length_file channels (file_rate bytes) 24 count sound pad)
