-- Where the frames of an IMA sound lie in its blocks.
use Rattle.std.proofs.Common.{◌≡◌, ℕ, ◌+◌, ◌-◌, ◌*◌, ◌/◌, ◌%◌, ◌<◌, ◌≤◌, List, length, drop, get_or, min, refl, ap, sym, subst, ◌∙◌, arith}
use Rattle.std.specs.Int.{div_ceil}
use Rattle.std.proofs.Math.Nat.{mul-div_cancel, div-mul-le_self, div-le_self}
use Rattle.std.proofs.lemmas.Nat.{le-div, mul-le, div-add-mod', div-mul-add, mod-mul-add}
use Rattle.std.proofs.lemmas.List.{get_or-take, get_or-drop, length-take, length-drop}
use Rattle.ima_adpcm.specs.Blocks.{block_frames, header_index}
use Rattle.ima_adpcm.proofs.LayoutLemmas.{block_frames-whole}
use Rattle.wave_read.specs.Frames as wave_frames
use Rattle.wave_read.specs.StepIndices.{block_count}
use Rattle.wave_read.specs.Laws.{IsLayout, IsImaLayout, HoldsFrames, HasBlocks, IsWaveIn, IsWaveOf}
use Rattle.wave_read.specs.declared.kind.Kind.TheVariants.{Ima}
use Rattle.wave_read.specs.declared.wave.Wave.{Wave}
use Rattle.clip_decode.specs.Ima.{block_bytes, frames_per_block, block_number, frame_in_block}

pub layout_of : (bytes : List ℕ) (w : Wave) → IsWaveIn bytes w → w.kind ≡ Ima → IsImaLayout w.channels w.width w.align
layout_of bytes w lies kind = subst (λ k. IsLayout k w.channels w.width w.align) kind lies.layout

pub blocks_of : (bytes : List ℕ) (w : Wave) → IsWaveIn bytes w → w.kind ≡ Ima → HasBlocks w
blocks_of bytes w lies kind = subst (λ k. HoldsFrames k w) kind lies.frames

-- a whole block is its header and groups of eight frames
pub whole_block : (align ch : ℕ) → 1 ≤ ch → 4 * ch ≤ align → align % (4 * ch) ≡ 0
    → (m : ℕ) × (align ≡ (m + 1) * (4 * ch)) × (block_frames align ch ≡ 8 * m + 1) × (wave_frames.frames_per_block align ch ≡ 8 * m + 1)
unfolding wave_frames.frames_per_block
whole_block align ch some small even =
    let k = align / (4 * ch) in
    let parts : k * (4 * ch) + align % (4 * ch) ≡ align = div-add-mod' align (4 * ch) in
    let least : 1 ≤ k = le-div 1 align (4 * ch) (omega arith) (omega arith) in
    let m = k - 1 in
    let k_is : k ≡ m + 1 = omega arith in
    let align_is : align ≡ (m + 1) * (4 * ch) = rw (← k_is) (omega arith) in
    let rest : align - 4 * ch ≡ m * (4 * ch) = omega arith in
    let twice : 2 * (align - 4 * ch) ≡ 8 * m * ch = omega arith in
    let groups : (align - 4 * ch) / (4 * ch) ≡ m = rw (rest, mul-div_cancel m {n = 4 * ch} (omega arith)) refl in
    let halves : (2 * (align - 4 * ch)) / ch ≡ 8 * m = rw (twice, mul-div_cancel (8 * m) {n = ch} some) refl in
    (m, align_is, omega (arith, block_frames-whole align ch small, groups), omega (arith, halves))

-- so many bytes hold so many groups
pub holds_groups : (n ch x : ℕ) → 1 ≤ ch → 4 * ch * (1 + x) ≤ n → 1 + 8 * x ≤ block_frames n ch
holds_groups n ch x some fits =
    let header : 4 * ch ≤ n = omega (arith, mul-le (4 * ch) 1 (4 * ch) (1 + x) (omega arith) (omega arith)) in
    let groups : x ≤ (n - 4 * ch) / (4 * ch) = le-div x (n - 4 * ch) (4 * ch) (omega arith) (omega arith) in
    omega (arith, block_frames-whole n ch header)

-- frames of one block
pub same_block : (spb frame i : ℕ) → frame % spb + i < spb
    → ((frame + i) / spb ≡ frame / spb) × ((frame + i) % spb ≡ frame % spb + i)
same_block spb frame i inside =
    let parts : frame / spb * spb + frame % spb ≡ frame = div-add-mod' frame spb in
    let place : frame + i ≡ frame / spb * spb + (frame % spb + i) = omega arith in (
      ap (λ n. n / spb) place ∙ div-mul-add (frame / spb) spb (frame % spb + i) inside,
      ap (λ n. n % spb) place ∙ mod-mul-add (frame / spb) spb (frame % spb + i) inside,
    )

-- the first frame of the next block
pub next_block : (spb frame i : ℕ) → 0 < spb → frame % spb + i ≡ spb → (frame + i) % spb ≡ 0
next_block spb frame i some full =
    let parts : frame / spb * spb + frame % spb ≡ frame = div-add-mod' frame spb in
    let place : frame + i ≡ (frame / spb + 1) * spb + 0 = omega arith in
    ap (λ n. n % spb) place ∙ mod-mul-add (frame / spb + 1) spb 0 some

-- the first frame of a frame's block
pub block_start : (spb frame : ℕ) → 0 < spb → (frame - frame % spb) % spb ≡ 0
block_start spb frame some =
    let parts : frame / spb * spb + frame % spb ≡ frame = div-add-mod' frame spb in
    let place : frame - frame % spb ≡ frame / spb * spb + 0 = omega arith in
    ap (λ n. n % spb) place ∙ mod-mul-add (frame / spb) spb 0 some

pub some_frames : (w : Wave) → 4 * w.channels ≤ w.align → 0 < frames_per_block w
some_frames w small = omega (arith, block_frames-whole w.align w.channels small)

pub length_block : (bytes : List ℕ) (w : Wave) (block : ℕ) → w.data_from + w.data_len ≤ length bytes → block * w.align ≤ w.data_len
    → length (block_bytes bytes w block) ≡ min w.align (w.data_len - block * w.align)
unfolding block_bytes
length_block bytes w block inside begins =
    let n = min w.align (w.data_len - block * w.align) in
    omega (arith, length-take n (drop (w.data_from + block * w.align) bytes), length-drop (w.data_from + block * w.align) bytes)

-- n frames from `frame` on lie in its block
pub record InBlock (w : Wave) (frame n : ℕ) : Type 0 where
  pub some : 0 < n
  pub there : frame + n ≤ w.frames
  pub inside : frame_in_block w frame + n ≤ frames_per_block w

pub in_block : (w : Wave) (frame end per_block n : ℕ) → 4 * w.channels ≤ w.align → per_block ≡ frames_per_block w → 0 < n
    → n ≤ per_block - frame % per_block → n ≤ end - frame → frame < end → end ≤ w.frames → InBlock w frame n
in_block w frame end per_block n small is some left wanted begun most =
    let inside : n ≤ frames_per_block w - frame % frames_per_block w = rw is at left in
    let positive = some_frames w small in
    let first : frame % frames_per_block w < frames_per_block w = omega arith in
    record { some = some; there = omega arith; inside = omega arith }

pub few_frames : (w : Wave) → 4 * w.channels ≤ w.align → frames_per_block w ≤ 1 + 8 * w.align
few_frames w small =
    omega (arith, block_frames-whole w.align w.channels small, div-le_self (w.align - 4 * w.channels) (4 * w.channels))

-- the bytes of the header and of the groups up to those frames
abbrev part_bytes : Wave → ℕ → ℕ → ℕ
part_bytes w frame n = 4 * w.channels * (1 + div_ceil (frame_in_block w frame + (n - 1)) 8)

part_in_data : (bytes : List ℕ) (w : Wave) (frame n : ℕ) → IsWaveIn bytes w → w.kind ≡ Ima → InBlock w frame n
    → block_number w frame * w.align + part_bytes w frame n ≤ w.data_len
part_in_data bytes w frame n lies kind part =
    let layout = layout_of bytes w lies kind in
    let m = whole_block w.align w.channels lies.channels_least layout.header layout.groups in
    let count : wave_frames.frames_per_block w.align w.channels ≡ frames_per_block w = m.3 ∙ sym m.2 in
    let last = frame + (n - 1) in
    let same = same_block (frames_per_block w) frame (n - 1) (omega (arith, part.some, part.inside)) in
    rw (← same.0, ← same.1) (rw count at ((blocks_of bytes w lies kind).groups_of_eight last (omega (arith, part.some, part.there))))

part_in_block : (bytes : List ℕ) (w : Wave) (frame n : ℕ) → IsWaveIn bytes w → w.kind ≡ Ima → InBlock w frame n
    → part_bytes w frame n ≤ w.align
part_in_block bytes w frame n lies kind part =
    let layout = layout_of bytes w lies kind in
    let m = whole_block w.align w.channels lies.channels_least layout.header layout.groups in
    let groups : 1 + div_ceil (frame_in_block w frame + (n - 1)) 8 ≤ m.0 + 1 = omega (arith, part.some, part.inside, m.2) in
    omega (arith, m.1, mul-le (4 * w.channels) (1 + div_ceil (frame_in_block w frame + (n - 1)) 8) (4 * w.channels) (m.0 + 1) (omega arith) groups)

pub block_begins : (bytes : List ℕ) (w : Wave) (frame n : ℕ) → IsWaveIn bytes w → w.kind ≡ Ima → InBlock w frame n
    → block_number w frame * w.align ≤ w.data_len
block_begins bytes w frame n lies kind part = omega (arith, part_in_data bytes w frame n lies kind part)

-- the bytes of those frames are there
part_bytes_there : (bytes : List ℕ) (w : Wave) (frame n : ℕ) → IsWaveIn bytes w → w.kind ≡ Ima → InBlock w frame n
    → part_bytes w frame n ≤ length (block_bytes bytes w (block_number w frame))
part_bytes_there bytes w frame n lies kind part =
    omega (
      arith,
      length_block bytes w (block_number w frame) lies.inside (block_begins bytes w frame n lies kind part),
      part_in_data bytes w frame n lies kind part,
      part_in_block bytes w frame n lies kind part,
    )

pub part_there : (bytes : List ℕ) (w : Wave) (frame n : ℕ) → IsWaveIn bytes w → w.kind ≡ Ima → InBlock w frame n
    → frame_in_block w frame + n ≤ block_frames (length (block_bytes bytes w (block_number w frame))) w.channels
part_there bytes w frame n lies kind part =
    omega (
      arith,
      part.some,
      holds_groups (length (block_bytes bytes w (block_number w frame))) w.channels (div_ceil (frame_in_block w frame + (n - 1)) 8)
          lies.channels_least (part_bytes_there bytes w frame n lies kind part),
    )

below_count : (n m b : ℕ) → 0 < m → b * m < n → b < div_ceil n m
below_count n m b some below =
    let whole : b ≤ n / m = le-div b n m some (omega arith) in
    let parts : n / m * m + n % m ≡ n = div-add-mod' n m in
    grind (arith, parts)

-- no header of the block has a step index that the table lacks
pub headers_sound : (bytes : List ℕ) (w : Wave) (frame n c : ℕ) → IsWaveOf bytes w → w.kind ≡ Ima → InBlock w frame n → c < w.channels
    → header_index (block_bytes bytes w (block_number w frame)) c ≤ 88
unfolding block_bytes block_count
headers_sound bytes w frame n c lawful kind part channel =
    let layout = layout_of bytes w lawful.lies kind in
    let m = whole_block w.align w.channels lawful.lies.channels_least layout.header layout.groups in
    let count : wave_frames.frames_per_block w.align w.channels ≡ frames_per_block w = m.3 ∙ sym m.2 in
    let b = block_number w frame in
    let some = some_frames w layout.header in
    let begun : b * frames_per_block w < w.frames = omega (arith, part.some, part.there, div-mul-le_self frame (frames_per_block w)) in
    let below : b < div_ceil w.frames (frames_per_block w) = below_count w.frames (frames_per_block w) b some begun in
    let len = min w.align (w.data_len - b * w.align) in
    let place = w.data_from + b * w.align in
    let header : 4 * w.channels ≤ len =
    omega (
      arith,
      mul-le (4 * w.channels) 1 (4 * w.channels) (1 + div_ceil (frame_in_block w frame + (n - 1)) 8) (omega arith) (omega arith),
      part_in_data bytes w frame n lawful.lies kind part,
      part_in_block bytes w frame n lawful.lies kind part,
    ) in
    let at : place + (4 * c + 2) ≡ w.data_from + b * w.align + 4 * c + 2 = omega arith in
    let same : header_index (block_bytes bytes w b) c ≡ get_or bytes (w.data_from + b * w.align + 4 * c + 2) 0 =
    get_or-take len (drop place bytes) (4 * c + 2) 0 (omega arith) ∙ get_or-drop place bytes (4 * c + 2) 0
    ∙ ap (λ p. get_or bytes p 0) at in
    rw same (lawful.steps kind b c (rw count below) channel)
