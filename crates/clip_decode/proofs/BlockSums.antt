-- The frames of an IMA sound are those of its blocks.
use Rattle.std.proofs.Common.{◌≡◌, ℕ, zero, suc, ◌+◌, ◌-◌, ◌*◌, ◌/◌, ◌%◌, ◌<◌, ◌≤◌, List, length, min, inl, inr, refl, ap, sym, ◌∙◌, arith}
use Rattle.std.specs.Int.{div_ceil}
use Rattle.std.specs.List.{sum_by, range_with_len}
use Rattle.std.proofs.Math.Nat.{div-mul-le_self, mod-lt}
use Rattle.std.proofs.lemmas.Bool.{cases_eq, lt-ltb}
use Rattle.std.proofs.lemmas.List.Sums.{sum_by-cons}
use Rattle.std.proofs.lemmas.Nat.{mul-le, div-add-mod'}
use Rattle.ima_adpcm.specs.Blocks.{block_frames}
use Rattle.wave_read.specs.Frames as wave_frames
use Rattle.wave_read.specs.Laws.{IsWaveIn}
use Rattle.wave_read.specs.declared.kind.Kind.TheVariants.{Ima}
use Rattle.wave_read.specs.declared.wave.Wave.{Wave}
use Rattle.clip_decode.specs.Ima.{block_bytes}
use Rattle.clip_decode.proofs.ImaBlocks.{layout_of, whole_block, length_block}

-- n equal terms
sum-equal : (f : ℕ → ℕ) (v n from : ℕ) → ((b : ℕ) → from ≤ b → b < from + n → f b ≡ v)
    → sum_by f (range_with_len from n) ≡ n * v
sum-equal f v zero from each = omega arith
sum-equal f v (suc n) from each =
    omega (
      arith,
      sum_by-cons f from (range_with_len (from + 1) n),
      each from (omega arith) (omega arith),
      sum-equal f v n (from + 1) (λ b low high. each b (omega arith) (omega arith)),
    )

-- n equal terms, and one after them
sum-and_last : (f : ℕ → ℕ) (v last n from : ℕ) → ((b : ℕ) → from ≤ b → b < from + n → f b ≡ v)
    → ((b : ℕ) → b ≡ from + n → f b ≡ last) → sum_by f (range_with_len from (suc n)) ≡ n * v + last
sum-and_last f v last zero from each after = omega (arith, sum_by-cons f from (range_with_len (from + 1) 0), after from (omega arith))
sum-and_last f v last (suc n) from each after =
    omega (
      arith,
      sum_by-cons f from (range_with_len (from + 1) (suc n)),
      each from (omega arith) (omega arith),
      sum-and_last f v last n (from + 1) (λ b low high. each b (omega arith) (omega arith)) (λ b is. after b (omega arith)),
    )

-- the blocks of `align` bytes in `len` bytes, of which the last one may be shorter
sum-blocks : (f : ℕ → ℕ) (len align v last : ℕ) → 0 < align
    → ((b : ℕ) → (b + 1) * align ≤ len → f b ≡ v)
    → (0 < len % align → (b : ℕ) → b ≡ len / align → f b ≡ last)
    → (len % align ≡ 0 → last ≡ 0)
    → len / align * v + last ≡ sum_by f (range_with_len 0 (div_ceil len align))
sum-blocks f len align v last positive whole short none =
    let q = len / align in
    let whole_q : (b : ℕ) → 0 ≤ b → b < 0 + q → f b ≡ v =
    λ b low high. whole b (omega (arith, mul-le (b + 1) align q align (omega arith) (omega arith), div-mul-le_self len align)) in
    elim (cases_eq (len % align) 0) [
      | inl even ↦
          let count : div_ceil len align ≡ q = omega (arith, even) in
          rw count (omega (arith, none even, sum-equal f v q 0 whole_q))
      | inr odd ↦
          let count : div_ceil len align ≡ suc q = omega (arith, odd) in
          rw count (sym (sum-and_last f v last q 0 whole_q (λ b is. short (omega arith) b (omega arith))))
    ]

-- a whole block has as many frames by the reader's count as by the decoder's
pub frames_of_a_block : (bytes : List ℕ) (w : Wave) → IsWaveIn bytes w → w.kind ≡ Ima
    → wave_frames.frames_per_block w.align w.channels ≡ block_frames w.align w.channels
frames_of_a_block bytes w lies kind =
    let layout = layout_of bytes w lies kind in
    let m = whole_block w.align w.channels lies.channels_least layout.header layout.groups in
    m.3 ∙ sym m.2

-- and all blocks have as many
pub frames_of_blocks : (bytes : List ℕ) (w : Wave) → IsWaveIn bytes w → w.kind ≡ Ima
    → wave_frames.frames_held w.align w.channels w.data_len
    ≡ sum_by (λ b. block_frames (length (block_bytes bytes w b)) w.channels) (range_with_len 0 (div_ceil w.data_len w.align))
unfolding wave_frames.frames_held wave_frames.frames_in_short_block
frames_of_blocks bytes w lies kind =
    let long : (b n : ℕ) → b * w.align ≤ w.data_len → min w.align (w.data_len - b * w.align) ≡ n
    → block_frames (length (block_bytes bytes w b)) w.channels ≡ block_frames n w.channels =
    λ b n begins is. ap (λ k. block_frames k w.channels) (length_block bytes w b lies.inside begins ∙ is) in
    rw (frames_of_a_block bytes w lies kind) (sum-blocks (λ b. block_frames (length (block_bytes bytes w b)) w.channels) w.data_len w.align
    (block_frames w.align w.channels) (block_frames (w.data_len % w.align) w.channels) lies.positive
    (λ b fits. long b w.align (omega (arith, fits)) (omega (arith, fits)))
    (λ some b is.
    long b (w.data_len % w.align) (rw is (div-mul-le_self w.data_len w.align))
    (rw is (omega (arith, mod-lt w.data_len lies.positive, div-add-mod' w.data_len w.align))))
    (λ even. rw (even, lt-ltb 0 (4 * w.channels) (omega (arith, lies.channels_least))) refl))
