-- The frames of a file in one channel or two.
use Rattle.std.proofs.Common.{◌≡◌, ◌∙◌, ℕ, zero, suc, ◌+◌, ◌*◌, ◌/◌, ◌%◌, ◌<◌, ◌≤◌, List, [], ◌∷◌, ◌++◌, length, take, drop, map, replicate, ℤ, pos, get_or, refl, ap, ap₂, sym, append-nil, append_assoc, arith}
use Rattle.std.specs.Prelude.{Ok}
use Rattle.std.specs.List.{range_with_len}
use Rattle.std.proofs.lemmas.List.Concat.{flat_map-append}
use Rattle.clip_decode.specs.Frames.{frames, interleaved}
use Rattle.clip_decode.specs.Pages.{page_frames}
use Rattle.plain_data.proofs.Lists.{map_range-join}
use Rattle.rate_fit.specs.Channels.{in_channels}
use Rattle.scene_clips.specs.ClipFrames.{all_in_channels}
use Rattle.scene_clips.specs.FilePages.{frame_or_silence}
use Rattle.scene_clips.specs.Unchanged.{channels_said}
use Rattle.scene_clips.proofs.Copies.{same_channels}
use Rattle.scene_clips.proofs.FilePages.{frame_in_page, frames_counted}
use Rattle.wave_read.specs.Wave.{wave}
use Rattle.wave_read.specs.declared.wave.Wave.{Wave}
use Rattle.cut_render.specs.Cut.{channels_for, cut_channels, cut_frame, piece}

-- the only sample of a frame
pub alone : (xs : List ℤ) (place : ℕ) → place < length xs → in_channels 1 (take 1 (drop place xs)) ≡ get_or xs place (pos 0) ∷ []
alone [] place inside = absurd (omega (arith, inside))
alone (x ∷ xs) zero inside = ap (λ (y : ℤ). y ∷ []) (same_channels (x ∷ []) 1 0 refl (omega arith) (omega arith) (omega arith))
alone (x ∷ xs) (suc place) inside = alone xs place (omega (arith, inside))

pub channels_are : (bytes : List ℕ) (w : Wave) → wave bytes ≡ Ok w → cut_channels bytes ≡ channels_for w.channels
channels_are bytes w said = ap (λ r. channels_for (channels_said r)) said

-- a frame that the list has, in so many channels
pub converted : (channels : ℕ) (list : List (List ℤ)) (n w : ℕ) → n < length list → in_channels channels (frame_or_silence w list n) ≡ frame_or_silence channels (all_in_channels channels list) n
converted channels [] n w below = absurd (omega (arith, below))
converted channels (frame ∷ list) zero w below = refl
converted channels (frame ∷ list) (suc n) w below = converted channels list n w (omega (arith, below))

-- the frame of a file, as its page has it
pub frame_of_page : (bytes : List ℕ) (w : Wave) (n : ℕ) → wave bytes ≡ Ok w → n < w.frames
    → in_channels (channels_for w.channels) (take w.channels (drop (n % 8192 * w.channels) (interleaved (page_frames bytes (n / 8192))))) ≡ cut_frame bytes n
frame_of_page bytes w n said below =
    ap (in_channels (channels_for w.channels)) (frame_in_page bytes w n said below)
    ∙ converted (channels_for w.channels) (frames bytes) n w.channels (omega (arith, below, frames_counted bytes w said))
    ∙ ap (λ c. frame_or_silence c (all_in_channels c (frames bytes)) n) (sym (channels_are bytes w said))

past_all : (channels : ℕ) (list : List (List ℤ)) (n : ℕ) → length list ≤ n → frame_or_silence channels (all_in_channels channels list) n ≡ replicate channels (pos 0)
past_all channels [] n past = refl
past_all channels (frame ∷ list) zero past = absurd (omega (arith, past))
past_all channels (frame ∷ list) (suc n) past = past_all channels list n (omega (arith, past))

-- past the end of the file
pub silent_frame : (bytes : List ℕ) (w : Wave) (n : ℕ) → wave bytes ≡ Ok w → w.frames ≤ n → cut_frame bytes n ≡ replicate (channels_for w.channels) (pos 0)
silent_frame bytes w n said past =
    past_all (cut_channels bytes) (frames bytes) n (omega (arith, past, frames_counted bytes w said))
    ∙ ap (λ c. replicate c (pos 0)) (channels_are bytes w said)

-- pieces that follow one another
pub piece-join : (bytes : List ℕ) (place count more : ℕ) → piece bytes place (count + more) ≡ piece bytes place count ++ piece bytes (place + count) more
unfolding interleaved
piece-join bytes place count more =
    ap interleaved (map_range-join (cut_frame bytes) place count more)
    ∙ flat_map-append (λ (xs : List ℤ). xs) (map (cut_frame bytes) (range_with_len place count)) (map (cut_frame bytes) (range_with_len (place + count) more))

-- one frame more
piece-next : (bytes : List ℕ) (place count : ℕ) → piece bytes place (count + 1) ≡ piece bytes place count ++ cut_frame bytes (place + count)
unfolding interleaved
piece-next bytes place count =
    piece-join bytes place count 1 ∙ ap (λ (xs : List ℤ). piece bytes place count ++ xs) (append-nil (cut_frame bytes (place + count)))

-- and behind those that were there
pub read-next : (bytes : List ℕ) (place count : ℕ) (start old new frame : List ℤ) → old ≡ start ++ piece bytes place count
    → frame ≡ cut_frame bytes (place + count) → new ≡ old ++ frame → new ≡ start ++ piece bytes place (count + 1)
read-next bytes place count start old new frame were is more =
    more ∙ ap₂ (λ (xs ys : List ℤ). xs ++ ys) were is
    ∙ append_assoc start (piece bytes place count) (cut_frame bytes (place + count))
    ∙ ap (λ (xs : List ℤ). start ++ xs) (sym (piece-next bytes place count))

pub no-frames : (bytes : List ℕ) (place : ℕ) → piece bytes place 0 ≡ []
unfolding interleaved
no-frames bytes place = refl
