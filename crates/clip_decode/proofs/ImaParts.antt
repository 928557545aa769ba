-- A part of an IMA block is decoded behind the frames before it.
use Rattle.std.proofs.Common.{◌≡◌, ℕ, ◌+◌, ◌-◌, ◌*◌, ◌<◌, ◌≤◌, List, ℤ, pos, get_or, slice_index_or, refl, ap, subst, ◌∙◌, arith, inl, inr}
use Rattle.std.proofs.Math.Nat.{mul-le-mul_right, eq-or-lt_of_le}
use Rattle.std.proofs.lemmas.Bool.{cases_lt}
use Rattle.mix_fixed.specs.Sound.{Is24}
use Rattle.ima_adpcm.specs.Blocks.{block_sample}
use Rattle.ima_adpcm.specs.Decoder.{State}
use Rattle.ima_adpcm.specs.Frames.{FramesAre, DecodersAt}
use Rattle.wave_read.specs.declared.wave.Wave.{Wave}
use Rattle.clip_decode.specs.Cells.{Appended, Written}
use Rattle.clip_decode.specs.Cursors.{ReadyAt}
use Rattle.clip_decode.specs.Ima.{block_bytes, frames_per_block, block_number, frame_in_block, ima_sample}
use Rattle.clip_decode.specs.Widened.{widened}
use Rattle.clip_decode.proofs.ImaBlocks.{same_block, next_block}

pub place_below : (f c ch n : ℕ) → f < n → c < ch → f * ch + c < n * ch
place_below f c ch n frame channel =
    let fits : f + 1 ≤ n = omega arith in
    omega (arith, channel, mul-le-mul_right {m = f + 1} {n = n} ch fits)

place_behind : (at g f c ch : ℕ) → at + g ≡ f → f * ch + c ≡ at * ch + (g * ch + c)
place_behind at g f c ch f_is = rw (← f_is) (omega arith)

pub written_none : (ch : ℕ) (value : ℕ → ℕ → ℤ) (cells : List ℤ) → Written ch 0 value cells
written_none ch value cells = record {
  frames = record { each = λ f c lt channel. absurd (omega arith) };
  range = record { each = λ i lt. absurd (omega arith) };
}

pub written_more : (ch at n : ℕ) (value part : ℕ → ℕ → ℤ) (samples old new : List ℤ)
    → Written ch at value old → FramesAre ch n part samples
    → Appended (at * ch) (n * ch) (λ i. widened (slice_index_or samples i (pos 0))) old new
    → ((f c : ℕ) → f < n → c < ch → widened (part f c) ≡ value (at + f) c)
    → Written ch (at + n) value new
written_more ch at n value part samples old new done decoded grown same = record {
  frames = record {
    each = λ f c lt channel. elim (cases_lt f at) [
      | inl before ↦ grown.before (f * ch + c) (place_below f c ch at before channel) ∙ done.frames.each f c before channel
      | inr behind ↦
          let g = f - at in
          let f_is : at + g ≡ f = omega arith in
          ap (λ p. get_or new p (pos 0)) (place_behind at g f c ch f_is)
          ∙ grown.samples (g * ch + c) (place_below g c ch n (omega arith) channel)
          ∙ ap widened (decoded.each g c (omega arith) channel)
          ∙ same g c (omega arith) channel
          ∙ ap (λ k. value k c) f_is
    ];
  };
  range = record {
    each = λ i lt. elim (cases_lt i (at * ch)) [
      | inl before ↦ rw (grown.before i before) (done.range.each i before)
      | inr behind ↦
          let place : at * ch + (i - at * ch) ≡ i = omega arith in
          subst (λ k. Is24 (get_or new k (pos 0))) place (grown.range (i - at * ch) (omega arith))
    ];
  };
}

-- a sample of a frame behind another one in its block
pub part_sample : (bytes : List ℕ) (w : Wave) (frame f c : ℕ) → frame_in_block w frame + f < frames_per_block w
    → widened (block_sample (block_bytes bytes w (block_number w frame)) w.channels c (frame_in_block w frame + f))
    ≡ ima_sample bytes w (frame + f) c
unfolding ima_sample
part_sample bytes w frame f c inside =
    let same = same_block (frames_per_block w) frame f inside in
    rw (same.0, same.1) refl

-- the decoders that a part leaves are ready at the frame after it
pub ready_after : (bytes : List ℕ) (w : Wave) (frame n : ℕ) (decoders : List State) → 0 < n → 0 < frames_per_block w
    → frame_in_block w frame + n ≤ frames_per_block w
    → DecodersAt (block_bytes bytes w (block_number w frame)) w.channels (frame_in_block w frame + n - 1) decoders
    → ReadyAt bytes w (frame + n) decoders
ready_after bytes w frame n decoders some positive inside left = elim (eq-or-lt_of_le inside) [
  | inl full ↦ record { inside = λ more. absurd (omega (arith, more, next_block (frames_per_block w) frame n positive full)) }
  | inr within ↦
      let same = same_block (frames_per_block w) frame n within in
      record { inside = λ more. rw (same.0, same.1) left }
]
