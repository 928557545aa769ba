-- The samples of a scene's frames, one by one.
use Rattle.std.proofs.Common.{◌≡◌, ℕ, ◌+◌, ◌*◌, ◌/◌, ◌%◌, ◌<◌, ℤ, pos, List, [], length, get_or, sym, ◌∙◌, ap, arith}
use Rattle.std.specs.Prelude.{All, slice_index_or}
use Rattle.std.specs.List.{range_with_len}
use Rattle.std.proofs.Math.Nat.{mod-lt, div-add-mod}
use Rattle.std.proofs.lemmas.List.{ext_get_or}
use Rattle.std.proofs.lemmas.List.Elements.{All-map}
use Rattle.std.proofs.lemmas.List.FromFn.{get_or-map-range_with_len, length-map-range_with_len}
use Rattle.clip_decode.specs.Frames.{interleaved}
use Rattle.mix_fixed.proofs.Rounding.{quotient_below}
use Rattle.scene_clips.specs.SceneClipData.{SceneClipData}
use Rattle.scene_model.specs.SceneData.{SceneData}
use Rattle.scene_model.specs.Times.{plan}
use Rattle.mix_model.specs.Mix.{frame_state, frames_from}
use Rattle.mix_model.specs.Pulled.{endpoint}
use Rattle.mix_model.specs.Signals.{input, frame}
use Rattle.mix_model.proofs.PackedSamples.{length_interleaved, interleaved_at}

abbrev frame_at : List SceneClipData → SceneData → ℕ → List ℤ
frame_at clips s t = frame (frame_state clips s t) s.channels

abbrev sample_at : List SceneClipData → SceneData → ℕ → ℕ → ℤ
sample_at clips s t channel = input (frame_state clips s t) channel (endpoint (plan s t))

pub frames_widths : (clips : List SceneClipData) (s : SceneData) (t count : ℕ) → All (λ (f : List ℤ). length f ≡ s.channels) (frames_from clips s t count)
frames_widths clips s t count =
    All-map (λ (f : List ℤ). length f ≡ s.channels) (frame_at clips s) (range_with_len t count)
    (λ k d inside. length-map-range_with_len (sample_at clips s (get_or (range_with_len t count) k d)) 0 s.channels)

pub frames_count : (clips : List SceneClipData) (s : SceneData) (t count : ℕ) → length (frames_from clips s t count) ≡ count
frames_count clips s t count = length-map-range_with_len (frame_at clips s) t count

-- the endpoint's samples, place by place, are the frames
pub samples_are : (clips : List SceneClipData) (s : SceneData) (t count : ℕ) (samples : List ℤ) → 0 < s.channels → length samples ≡ count * s.channels
    → ((j : ℕ) → j < length samples → slice_index_or samples j (pos 0) ≡ input (frame_state clips s (t + j / s.channels)) (j % s.channels) (endpoint (plan s (t + j / s.channels))))
    → samples ≡ interleaved (frames_from clips s t count)
samples_are clips s t count samples some long cells =
    let frames = frames_from clips s t count in
    let widths = frames_widths clips s t count in
    let many = frames_count clips s t count in
    ext_get_or (pos 0) samples (interleaved frames) (long ∙ sym (length_interleaved s.channels frames widths ∙ ap (λ k. k * s.channels) many)) (λ j below.
    let n = j / s.channels in
    let c = j % s.channels in
    let short : n < count = quotient_below j count s.channels some (omega (arith, below, long)) in
    let inside : c < s.channels = mod-lt j some in
    let place : n * s.channels + c ≡ j = omega (arith, div-add-mod j s.channels) in
    let there = interleaved_at s.channels frames n c widths (omega (arith, many, short)) inside in
    let row : get_or frames n [] ≡ frame_at clips s (t + n) = get_or-map-range_with_len (frame_at clips s) t count n (t + n) [] short (omega arith) in
    let cell : get_or (frame_at clips s (t + n)) c (pos 0) ≡ sample_at clips s (t + n) c = get_or-map-range_with_len (sample_at clips s (t + n)) 0 s.channels c c (pos 0) inside (omega arith) in
    cells j below ∙ sym (ap (λ k. get_or (interleaved frames) k (pos 0)) (sym place) ∙ there ∙ ap (λ (xs : List ℤ). get_or xs c (pos 0)) row ∙ cell))
