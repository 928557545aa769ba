-- The frames of a file in two channels.
use Rattle.std.proofs.Common.{◌≡◌, ◌∙◌, ℕ, zero, suc, ◌+◌, ◌*◌, ◌/◌, ◌%◌, ◌<◌, ◌≤◌, List, [], ◌∷◌, ◌++◌, length, take, drop, ℤ, pos, refl, ap, ap₂, sym, append-nil, append_assoc, arith}
use Rattle.std.specs.Prelude.{Ok}
use Rattle.std.proofs.lemmas.List.Concat.{flat_map-append}
use Rattle.clip_decode.specs.Frames.{frames, interleaved}
use Rattle.clip_decode.specs.Pages.{page_frames}
use Rattle.plain_data.proofs.Lists.{map_range-join}
use Rattle.rate_fit.specs.Channels.{in_channels}
use Rattle.scene_clips.specs.ClipFrames.{all_in_channels}
use Rattle.scene_clips.specs.FilePages.{frame_or_silence}
use Rattle.scene_clips.proofs.FilePages.{frame_in_page, frames_counted}
use Rattle.wave_read.specs.Wave.{wave}
use Rattle.wave_read.specs.declared.wave.Wave.{Wave}
use Rattle.fx_render.specs.Effected.{stereo_frames}

-- a frame that the list has, in two channels
in_stereo : (list : List (List ℤ)) (n w : ℕ) → n < length list → in_channels 2 (frame_or_silence w list n) ≡ frame_or_silence 2 (all_in_channels 2 list) n
in_stereo [] n w below = absurd (omega (arith, below))
in_stereo (frame ∷ list) zero w below = refl
in_stereo (frame ∷ list) (suc n) w below = in_stereo list n w (omega (arith, below))

-- the frame of a file, as its page has it
pub frame_of_page : (bytes : List ℕ) (w : Wave) (n : ℕ) → wave bytes ≡ Ok w → n < w.frames
    → in_channels 2 (take w.channels (drop (n % 8192 * w.channels) (interleaved (page_frames bytes (n / 8192))))) ≡ frame_or_silence 2 (all_in_channels 2 (frames bytes)) n
frame_of_page bytes w n said below =
    ap (in_channels 2) (frame_in_page bytes w n said below) ∙ in_stereo (frames bytes) n w.channels (omega (arith, below, frames_counted bytes w said))

past_all : (list : List (List ℤ)) (n : ℕ) → length list ≤ n → frame_or_silence 2 (all_in_channels 2 list) n ≡ pos 0 ∷ pos 0 ∷ []
past_all [] n past = refl
past_all (frame ∷ list) zero past = absurd (omega (arith, past))
past_all (frame ∷ list) (suc n) past = past_all list n (omega (arith, past))

-- past the end of the file
pub silent_frame : (bytes : List ℕ) (w : Wave) (n : ℕ) → wave bytes ≡ Ok w → w.frames ≤ n → frame_or_silence 2 (all_in_channels 2 (frames bytes)) n ≡ pos 0 ∷ pos 0 ∷ []
silent_frame bytes w n said past = past_all (frames bytes) n (omega (arith, past, frames_counted bytes w said))

-- frames that follow one another
pub stereo-join : (bytes : List ℕ) (from count more : ℕ)
    → interleaved (stereo_frames bytes from (count + more)) ≡ interleaved (stereo_frames bytes from count) ++ interleaved (stereo_frames bytes (from + count) more)
unfolding interleaved
stereo-join bytes from count more =
    let frame = frame_or_silence 2 (all_in_channels 2 (frames bytes)) in
    ap interleaved (map_range-join frame from count more)
    ∙ flat_map-append (λ (xs : List ℤ). xs) (stereo_frames bytes from count) (stereo_frames bytes (from + count) more)

-- one frame more
pub stereo-next : (bytes : List ℕ) (from count : ℕ)
    → interleaved (stereo_frames bytes from (count + 1)) ≡ interleaved (stereo_frames bytes from count) ++ frame_or_silence 2 (all_in_channels 2 (frames bytes)) (from + count)
unfolding interleaved
stereo-next bytes from count =
    stereo-join bytes from count 1
    ∙ ap (λ (xs : List ℤ). interleaved (stereo_frames bytes from count) ++ xs) (append-nil (frame_or_silence 2 (all_in_channels 2 (frames bytes)) (from + count)))

-- and behind those that were there
pub read-next : (bytes : List ℕ) (from count : ℕ) (start old new frame : List ℤ) → old ≡ start ++ interleaved (stereo_frames bytes from count)
    → frame ≡ frame_or_silence 2 (all_in_channels 2 (frames bytes)) (from + count) → new ≡ old ++ frame
    → new ≡ start ++ interleaved (stereo_frames bytes from (count + 1))
read-next bytes from count start old new frame were is more =
    more ∙ ap₂ (λ (xs ys : List ℤ). xs ++ ys) were is
    ∙ append_assoc start (interleaved (stereo_frames bytes from count)) (frame_or_silence 2 (all_in_channels 2 (frames bytes)) (from + count))
    ∙ ap (λ (xs : List ℤ). start ++ xs) (sym (stereo-next bytes from count))
