-- A file at the scene's rate.
use Rattle.std.proofs.Common.{◌≡◌, ℕ, ◌+◌, ◌-◌, ◌*◌, ◌<◌, ◌≤◌, List, length, ℤ, pos, negsuc, ◌+ℤ◌, ◌*ℤ◌, refl, ap, sym, ◌∙◌, arith}
use Rattle.std.specs.Prelude.{Ok, slice_index_or}
use Rattle.std.specs.Int.{int_div_euclid}
use Rattle.std.proofs.Math.Nat.{mul-div_cancel}
use Rattle.std.proofs.lemmas.Int.{ints}
use Rattle.std.proofs.lemmas.Nat.{div-mul-add}
use Rattle.clip_decode.specs.Frames.{frames}
use Rattle.clip_decode.specs.Limits.{most_sound_bytes}
use Rattle.clip_decode.proofs.Limits.{few_frames}
use Rattle.rate_fit.specs.Blend.{blended}
use Rattle.rate_fit.specs.Channels.{in_channels}
use Rattle.rate_fit.specs.Conversion.{Conversion, IsConversion, length_of}
use Rattle.rate_fit.specs.Points.{point_at}
use Rattle.rate_fit.specs.declared.point.Point.{Point}
use Rattle.wave_read.specs.Wave.{wave}
use Rattle.wave_read.specs.Laws.{IsWaveOf}
use Rattle.wave_read.specs.declared.wave.Wave.{Wave}
use Rattle.scene_clips.specs.ClipFrames.{all_in_channels, sample_or_zero, file_rate, rate_said, clip_length, clip_sample}
use Rattle.scene_clips.specs.ConverterData.{ConverterData, converted}
use Rattle.scene_clips.specs.FilePages.{frame_or_silence}
use Rattle.scene_clips.proofs.FilePages.{frames_counted}
use Rattle.scene_clips.proofs.Silence.{frame_heard}

pub rate_of : (bytes : List ℕ) (w : Wave) → wave bytes ≡ Ok w → file_rate bytes ≡ w.rate
rate_of bytes w said = ap rate_said said

pub conversion : (bytes : List ℕ) (w : Wave) (rate : ℕ) → IsWaveOf bytes w → length bytes ≤ most_sound_bytes → 1 ≤ rate → rate ≤ 768000
    → IsConversion (record { input_rate = w.rate; output_rate = rate; frames = w.frames })
conversion bytes w rate lawful short least most = record {
  some_in = lawful.lies.rate_least;
  most_in = lawful.lies.rate_most;
  some_out = least;
  most_out = most;
  short = omega (arith, short, few_frames bytes w lawful.lies);
}

pub fit_length : (bytes : List ℕ) (w : Wave) (fit : Conversion) → wave bytes ≡ Ok w → fit.input_rate ≡ w.rate → fit.frames ≡ w.frames
    → clip_length bytes fit.output_rate ≡ length_of fit
unfolding clip_length
fit_length bytes w fit said input_rate count = rw (frames_counted bytes w said, rate_of bytes w said, input_rate, count) refl

-- a sample between two of the file's
pub blended_is : (bytes : List ℕ) (w : Wave) (fit : Conversion) (channels n c : ℕ) (p : Point) (first second : ℤ) → wave bytes ≡ Ok w
    → fit.input_rate ≡ w.rate → p ≡ point_at fit.input_rate fit.output_rate n
    → first ≡ sample_or_zero (all_in_channels channels (frames bytes)) p.first c
    → second ≡ sample_or_zero (all_in_channels channels (frames bytes)) (p.first + 1) c
    → blended first second p.weight fit.output_rate ≡ clip_sample bytes fit.output_rate channels n c
unfolding clip_sample
blended_is bytes w fit channels n c p first second said input_rate point first_is second_is =
    rw (first_is, second_is, point, input_rate, rate_of bytes w said) refl

pub whole_quotient : (a : ℤ) (r : ℕ) → 0 < r → int_div_euclid (a *ℤ pos r) (pos r) ≡ a
whole_quotient (pos n) r some = omega (arith, ints, mul-div_cancel n {n = r} some)
whole_quotient (negsuc n) r some =
    let product : negsuc n *ℤ pos r ≡ negsuc (n * r + (r - 1)) = omega (arith, ints) in
    rw product (omega (arith, ints, div-mul-add n r (r - 1) (omega arith)))

-- where the second has no weight
pub first_alone : (a b : ℤ) (r : ℕ) → 0 < r → blended a b 0 r ≡ a
first_alone a b r some =
    let all : r - 0 ≡ r = omega arith in
    let sum : (a *ℤ pos r) +ℤ (b *ℤ pos 0) ≡ a *ℤ pos r = omega (arith, ints) in
    rw (all, sum) (whole_quotient a r some)

-- a sample between two frames of the file
pub converted_is : (bytes : List ℕ) (w : Wave) (to : ConverterData) (n c : ℕ) (p : Point) (first second : List ℤ) → wave bytes ≡ Ok w
    → to.conversion.input_rate ≡ w.rate → p ≡ point_at to.conversion.input_rate to.conversion.output_rate n
    → first ≡ frame_or_silence w.channels (frames bytes) p.first
    → second ≡ frame_or_silence w.channels (frames bytes) (p.first + 1)
    → converted to first second p.weight c ≡ clip_sample bytes to.conversion.output_rate to.channels n c
converted_is bytes w to n c p first second said input_rate point first_is second_is =
    blended_is bytes w to.conversion to.channels n c p
    (slice_index_or (in_channels to.channels first) c (pos 0)) (slice_index_or (in_channels to.channels second) c (pos 0)) said input_rate point
    (ap (λ frame. slice_index_or (in_channels to.channels frame) c (pos 0)) first_is ∙ frame_heard to.channels w.channels p.first c (frames bytes))
    (ap (λ frame. slice_index_or (in_channels to.channels frame) c (pos 0)) second_is ∙ frame_heard to.channels w.channels (p.first + 1) c (frames bytes))

-- where the second has no weight
pub first_only : (to : ConverterData) (first second : List ℤ) (w c : ℕ) → w < to.conversion.output_rate → w ≡ 0
    → slice_index_or (in_channels to.channels first) c (pos 0) ≡ converted to first second w c
first_only to first second w c weighted none =
    let a = slice_index_or (in_channels to.channels first) c (pos 0) in
    let b = slice_index_or (in_channels to.channels second) c (pos 0) in
    let rate = to.conversion.output_rate in
    sym (first_alone a b rate (omega (arith, weighted))) ∙ ap (λ weight. blended a b weight rate) (sym none)

-- and any frame stands for it
pub any_second : (to : ConverterData) (first other second : List ℤ) (w c : ℕ) → w < to.conversion.output_rate → w ≡ 0
    → converted to first other 0 c ≡ converted to first second w c
any_second to first other second w c weighted none =
    sym (first_only to first other 0 c (omega (arith, weighted)) refl) ∙ first_only to first second w c weighted none

-- a sample that lies at a frame of the file
pub converted_alone : (bytes : List ℕ) (w : Wave) (to : ConverterData) (n c : ℕ) (p : Point) (first : List ℤ) → wave bytes ≡ Ok w
    → to.conversion.input_rate ≡ w.rate → p ≡ point_at to.conversion.input_rate to.conversion.output_rate n
    → first ≡ frame_or_silence w.channels (frames bytes) p.first
    → p.weight < to.conversion.output_rate → p.weight ≡ 0
    → converted to first first 0 c ≡ clip_sample bytes to.conversion.output_rate to.channels n c
converted_alone bytes w to n c p first said input_rate point first_is weighted none =
    let second = frame_or_silence w.channels (frames bytes) (p.first + 1) in
    any_second to first first second p.weight c weighted none ∙ converted_is bytes w to n c p first second said input_rate point first_is refl
