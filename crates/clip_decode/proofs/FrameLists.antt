-- The list of frames has each sample by its numbers.
use Rattle.std.proofs.Common.{◌≡◌, ℕ, [], length, arith}
use Rattle.std.specs.Prelude.{ℤ, pos}
use Rattle.std.specs.List.{range_with_len}
use Rattle.std.proofs.lemmas.List.Elements.{All-map}
use Rattle.std.proofs.lemmas.List.FromFn.{length-map-range_with_len, get_or-map-range_with_len}
use Rattle.clip_decode.specs.Frames.{frame_by, frames_by, HasSamples}

pub has_samples : (sample : ℕ → ℕ → ℤ) (frames channels : ℕ) → HasSamples frames channels sample (frames_by sample frames channels)
has_samples sample frames channels = record {
  count = length-map-range_with_len (λ n. frame_by (sample n) channels) 0 frames;
  widths = All-map (λ frame. length frame ≡ channels) (λ n. frame_by (sample n) channels) (range_with_len 0 frames)
      (λ k d h. length-map-range_with_len (sample _) 0 channels);
  samples = λ n c below inside.
      rw (get_or-map-range_with_len (λ m. frame_by (sample m) channels) 0 frames n n [] below (omega arith))
      (get_or-map-range_with_len (sample n) 0 channels c c (pos 0) inside (omega arith));
}
