-- Containers that follow each other are the frames of PCM and G.711.
use Rattle.std.proofs.Common.{◌≡◌, ℕ, ◌+◌, ◌-◌, ◌*◌, ◌/◌, ◌≤◌, List, length, take, drop, ℤ, refl, ap, sym, subst, ◌∙◌, arith}
use Rattle.std.proofs.Math.Nat.{mul-div_cancel_left, mul-le-mul_right}
use Rattle.std.proofs.lemmas.List.{drop-drop, length-drop}
use Rattle.wave_read.specs.Laws.{IsLayout, IsPcmLayout, IsG711Layout, HoldsFrames, HasWholeFrames, IsWaveIn}
use Rattle.wave_read.specs.declared.kind.Kind.TheVariants.{Pcm, Alaw, Ulaw, Ima}
use Rattle.wave_read.specs.declared.wave.Wave.{Wave}
use Rattle.clip_decode.specs.Cells.{ContainersDecoded, Written}
use Rattle.clip_decode.specs.Containers.{container_of}
use Rattle.clip_decode.specs.G711.{alaw_value, alaw_sample, ulaw_value, ulaw_sample}
use Rattle.clip_decode.specs.Ima.{ima_sample}
use Rattle.clip_decode.specs.Pcm.{pcm_value, pcm_sample}
use Rattle.clip_decode.specs.Samples.{kind_sample, sample_of}
use Rattle.clip_decode.proofs.ImaParts.{place_below}

-- where a container stands in the sound from frame `from` on
place_is : (begin from frame channel ch align size : ℕ) → align ≡ ch * size
    → begin + from * align + size * (frame * ch + channel) ≡ begin + (from + frame) * align + channel * size
place_is begin from frame channel ch align size e = rw e (omega arith)

pub containers_written : (value : List ℕ → ℤ) (bytes : List ℕ) (w : Wave) (from n size : ℕ) (cells : List ℤ)
    → 1 ≤ w.channels → w.align ≡ w.channels * size
    → ContainersDecoded value size (drop (w.data_from + from * w.align) bytes) (n * w.channels) cells
    → Written w.channels n (λ f c. value (container_of bytes w (from + f) c)) cells
unfolding container_of
containers_written value bytes w from n size cells some align decoded =
    let ch = w.channels in
    let size_is : w.align / ch ≡ size = rw (align, mul-div_cancel_left size {n = ch} some) refl in
    record {
      frames = record {
        each = λ f c lt channel.
            decoded.samples (f * ch + c) (place_below f c ch n lt channel)
            ∙ ap (λ xs. value (take size xs)) (drop-drop (size * (f * ch + c)) (w.data_from + from * w.align) bytes)
            ∙ ap (λ p. value (take size (drop p bytes))) (place_is w.data_from from f c ch w.align size align)
            ∙ ap (λ s. value (take s (drop (w.data_from + (from + f) * w.align + c * s) bytes))) (sym size_is);
      };
      range = record { each = decoded.range };
    }

parts_sum : (start n end size : ℕ) → start + n ≡ end → start * size + n * size ≡ end * size
parts_sum start n end size ends = rw (← ends) (omega arith)

-- the containers of the frames from `start` to `end` are there
pub containers_there : (bytes : List ℕ) (w : Wave) (start end size : ℕ) → w.data_from + w.data_len ≤ length bytes
    → w.align ≡ w.channels * size → w.frames * w.align ≤ w.data_len → start ≤ end → end ≤ w.frames
    → size * ((end - start) * w.channels) ≤ length (drop (w.data_from + start * w.align) bytes)
containers_there bytes w start end size inside align whole some there =
    let ch = w.channels in
    let n = end - start in
    let all : end * w.align ≤ w.frames * w.align = mul-le-mul_right {m = end} {n = w.frames} w.align there in
    let ends : start + n ≡ end = omega arith in
    let parts : start * w.align + n * w.align ≡ end * w.align = parts_sum start n end w.align ends in
    let same : size * (n * ch) ≡ n * w.align = rw align (omega arith) in
    omega (arith, all, parts, same, length-drop (w.data_from + start * w.align) bytes)

-- the bytes before frame `start` are in the sound
pub begins_inside : (w : Wave) (start : ℕ) → w.frames * w.align ≤ w.data_len → start ≤ w.frames → start * w.align ≤ w.data_len
begins_inside w start whole there = omega (arith, mul-le-mul_right {m = start} {n = w.frames} w.align there)

-- how PCM and G.711 lie in the sound
pub pcm_layout : (bytes : List ℕ) (w : Wave) → IsWaveIn bytes w → w.kind ≡ Pcm → w.align ≡ w.channels * (w.width / 8)
pcm_layout bytes w lies kind =
    let layout : IsPcmLayout w.channels w.width w.align = subst (λ k. IsLayout k w.channels w.width w.align) kind lies.layout in
    layout.frame

pub alaw_layout : (bytes : List ℕ) (w : Wave) → IsWaveIn bytes w → w.kind ≡ Alaw → w.align ≡ w.channels * 1
alaw_layout bytes w lies kind =
    let layout : IsG711Layout w.channels w.width w.align = subst (λ k. IsLayout k w.channels w.width w.align) kind lies.layout in
    rw layout.byte at layout.frame

pub ulaw_layout : (bytes : List ℕ) (w : Wave) → IsWaveIn bytes w → w.kind ≡ Ulaw → w.align ≡ w.channels * 1
ulaw_layout bytes w lies kind =
    let layout : IsG711Layout w.channels w.width w.align = subst (λ k. IsLayout k w.channels w.width w.align) kind lies.layout in
    rw layout.byte at layout.frame

pub pcm_whole : (bytes : List ℕ) (w : Wave) → IsWaveIn bytes w → w.kind ≡ Pcm → w.frames * w.align ≤ w.data_len
pcm_whole bytes w lies kind = let held : HasWholeFrames w = subst (λ k. HoldsFrames k w) kind lies.frames in held.fit

pub alaw_whole : (bytes : List ℕ) (w : Wave) → IsWaveIn bytes w → w.kind ≡ Alaw → w.frames * w.align ≤ w.data_len
alaw_whole bytes w lies kind = let held : HasWholeFrames w = subst (λ k. HoldsFrames k w) kind lies.frames in held.fit

pub ulaw_whole : (bytes : List ℕ) (w : Wave) → IsWaveIn bytes w → w.kind ≡ Ulaw → w.frames * w.align ≤ w.data_len
ulaw_whole bytes w lies kind = let held : HasWholeFrames w = subst (λ k. HoldsFrames k w) kind lies.frames in held.fit

-- the same samples, told otherwise
written_as : (ch n : ℕ) (value other : ℕ → ℕ → ℤ) (cells : List ℤ) → ((f c : ℕ) → value f c ≡ other f c)
    → Written ch n value cells → Written ch n other cells
written_as ch n value other cells same done = record {
  frames = record { each = λ f c lt channel. done.frames.each f c lt channel ∙ same f c };
  range = done.range;
}

-- by the kind of the sound
pub pcm_written : (bytes : List ℕ) (w : Wave) (from n : ℕ) (cells : List ℤ) → w.kind ≡ Pcm
    → Written w.channels n (λ f c. pcm_value (container_of bytes w (from + f) c)) cells
    → Written w.channels n (λ f c. sample_of bytes w (from + f) c) cells
unfolding sample_of pcm_sample
pcm_written bytes w from n cells kind done =
    written_as w.channels n _ (λ f c. sample_of bytes w (from + f) c) cells
    (λ f c. sym (ap (λ k. kind_sample k bytes w (from + f) c) kind)) done

pub alaw_written : (bytes : List ℕ) (w : Wave) (from n : ℕ) (cells : List ℤ) → w.kind ≡ Alaw
    → Written w.channels n (λ f c. alaw_value (container_of bytes w (from + f) c)) cells
    → Written w.channels n (λ f c. sample_of bytes w (from + f) c) cells
unfolding sample_of alaw_sample
alaw_written bytes w from n cells kind done =
    written_as w.channels n _ (λ f c. sample_of bytes w (from + f) c) cells
    (λ f c. sym (ap (λ k. kind_sample k bytes w (from + f) c) kind)) done

pub ulaw_written : (bytes : List ℕ) (w : Wave) (from n : ℕ) (cells : List ℤ) → w.kind ≡ Ulaw
    → Written w.channels n (λ f c. ulaw_value (container_of bytes w (from + f) c)) cells
    → Written w.channels n (λ f c. sample_of bytes w (from + f) c) cells
unfolding sample_of ulaw_sample
ulaw_written bytes w from n cells kind done =
    written_as w.channels n _ (λ f c. sample_of bytes w (from + f) c) cells
    (λ f c. sym (ap (λ k. kind_sample k bytes w (from + f) c) kind)) done

pub ima_written : (bytes : List ℕ) (w : Wave) (from n : ℕ) (cells : List ℤ) → w.kind ≡ Ima
    → Written w.channels n (λ f c. ima_sample bytes w (from + f) c) cells
    → Written w.channels n (λ f c. sample_of bytes w (from + f) c) cells
unfolding sample_of
ima_written bytes w from n cells kind done =
    written_as w.channels n _ (λ f c. sample_of bytes w (from + f) c) cells
    (λ f c. sym (ap (λ k. kind_sample k bytes w (from + f) c) kind)) done
