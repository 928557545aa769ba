-- The header that is written, read by the rules of the reader.
use Rattle.std.proofs.Common.{◌≡◌, ℕ, ◌+◌, ◌*◌, ◌/◌, ◌%◌, ◌<◌, ◌≤◌, List, [], ◌∷◌, ◌++◌, length, take, drop, refl, ap, sym, ◌∙◌, arith, length-append}
use Rattle.std.specs.Prelude.{None, Ok}
use Rattle.std.proofs.Math.Nat.{mul-div_cancel, mul-div_cancel_left, mul-mod_right}
use Rattle.std.proofs.lemmas.Bool.{le-leb}
use Rattle.std.proofs.lemmas.List.{take_at}
use Rattle.std.proofs.lemmas.Nat.{mul-le}
use Rattle.byteorder.specs.Endian.{little_bytes}
use Rattle.byteorder.specs.Numbers.{little_number-reads_back}
use Rattle.wave_read.specs.Chunks.{Chunk, ChunksFrom, chunk_at, fmt_id, data_id, first_chunk}
use Rattle.wave_read.specs.Format.{tag_of, pcm_width, format_of}
use Rattle.wave_read.specs.Numbers.{u16_at, u32_at}
use Rattle.wave_read.specs.Wave.{opening, chunks_of, told_by, wave_of, wave}
use Rattle.wave_read.specs.declared.kind.Kind.TheVariants.{Pcm}
use Rattle.wave_read.proofs.ChunkLists.{list_there, only_list}
use Rattle.wave_write.specs.Header.{header, frame_bytes, data_bytes, pad_bytes}

-- the limits of a format of PCM
pub record IsWritable (channels rate width : ℕ) : Type 0 where
  pub channels_least : 1 ≤ channels
  pub channels_most : channels ≤ 8
  pub rate_least : 1 ≤ rate
  pub rate_most : rate ≤ 768000
  pub width_whole : width % 8 ≡ 0
  pub width_least : 8 ≤ width
  pub width_most : width ≤ 32

-- the body of the `fmt ` chunk
abbrev format_bytes : ℕ → ℕ → ℕ → List ℕ
format_bytes channels rate width =
    little_bytes 2 1 ++ little_bytes 2 channels ++ little_bytes 4 rate
    ++ little_bytes 4 (rate * frame_bytes channels width) ++ little_bytes 2 (frame_bytes channels width) ++ little_bytes 2 width

-- ---- the format

tag_read : (channels rate width : ℕ) → tag_of (format_bytes channels rate width) ≡ Ok 1
unfolding tag_of u16_at
tag_read channels rate width = refl

channels_read : (channels rate width : ℕ) → channels < 65536 → u16_at (format_bytes channels rate width) 2 ≡ channels
unfolding u16_at
channels_read channels rate width small = little_number-reads_back 2 channels (drop 4 (format_bytes channels rate width)) (omega arith)

rate_read : (channels rate width : ℕ) → rate < 4294967296 → u32_at (format_bytes channels rate width) 4 ≡ rate
unfolding u32_at
rate_read channels rate width small = little_number-reads_back 4 rate (drop 8 (format_bytes channels rate width)) (omega arith)

align_read : (channels rate width : ℕ) → frame_bytes channels width < 65536 → u16_at (format_bytes channels rate width) 12 ≡ frame_bytes channels width
unfolding u16_at
align_read channels rate width small =
    little_number-reads_back 2 (frame_bytes channels width) (drop 14 (format_bytes channels rate width)) (omega arith)

width_read : (channels rate width : ℕ) → width < 65536 → u16_at (format_bytes channels rate width) 14 ≡ width
unfolding u16_at
width_read channels rate width small = little_number-reads_back 2 width [] (omega arith)

width_is_whole : (channels width : ℕ) → 1 ≤ channels → width % 8 ≡ 0 → 8 ≤ width → width ≤ 32
    → pcm_width channels (frame_bytes channels width) width ≡ Ok width
unfolding pcm_width
width_is_whole channels width some whole least most =
    let positive : 0 < channels = omega arith in
    rw (
      mul-div_cancel_left (width / 8) positive,
      mul-mod_right channels (width / 8),
      le-leb 1 (width / 8) (omega arith),
      le-leb (width / 8) 4 (omega arith),
      le-leb 1 width (omega arith),
      le-leb width (8 * (width / 8)) (omega arith),
    ) (ap Ok (omega arith))

format_read : (channels rate width : ℕ) → IsWritable channels rate width
    → format_of (format_bytes channels rate width)
    ≡ Ok (record { kind = Pcm; channels = channels; rate = rate; width = width; align = frame_bytes channels width })
unfolding format_of
format_read channels rate width limits =
    let small : frame_bytes channels width ≤ 8 * 4 =
    mul-le channels (width / 8) 8 4 limits.channels_most (omega (arith, limits.width_most)) in
    rw (
      tag_read channels rate width,
      channels_read channels rate width (omega (arith, limits.channels_most)),
      le-leb 1 channels limits.channels_least,
      le-leb channels 8 limits.channels_most,
      rate_read channels rate width (omega (arith, limits.rate_most)),
      le-leb 1 rate limits.rate_least,
      le-leb rate 768000 limits.rate_most,
      align_read channels rate width (omega (arith, small)),
      width_read channels rate width (omega (arith, limits.width_most)),
      width_is_whole channels width limits.channels_least limits.width_whole limits.width_least limits.width_most,
    ) refl

-- ---- the chunks

module _ (channels rate width frames : ℕ) (sound pad : List ℕ) where
  abbrev file : List ℕ
  file = header channels rate width frames ++ (sound ++ pad)

  abbrev size : ℕ
  size = data_bytes channels width frames

  pub length_file : length file ≡ 44 + length (sound ++ pad)
  unfolding header
  length_file = omega arith

  opened : opening file ≡ Ok None
  unfolding opening header u32_at
  opened = rw (le-leb 4 (length file) (omega (arith, length_file)), le-leb 12 (length file) (omega (arith, length_file))) refl

  abbrev format_chunk : Chunk
  format_chunk = record { place = 12; id = fmt_id; size = 16; body = format_bytes channels rate width }

  abbrev data_chunk : Chunk
  data_chunk = record { place = 36; id = data_id; size = size; body = sound }

  format_is : chunk_at None file 12 ≡ format_chunk
  unfolding header u32_at
  format_is = refl

  size_is : size < 4294967296 → u32_at file 40 ≡ size
  unfolding header u32_at
  size_is small = little_number-reads_back 4 size (sound ++ pad) (omega arith)

  data_is : size < 4294967296 → length sound ≡ size → chunk_at None file 36 ≡ data_chunk
  unfolding header u32_at
  data_is small len =
      let made : ℕ → List ℕ → Chunk = λ n body. record { place = 36; id = data_id; size = n; body = body } in
      ap (λ n. made n (take n (sound ++ pad))) (size_is small) ∙ ap (made size) (take_at sound pad size len)

  chunks : List Chunk
  chunks = format_chunk ∷ data_chunk ∷ []

  chunks_are : size < 4294967296 → length sound ≡ size → length pad ≡ pad_bytes size → ChunksFrom None file first_chunk chunks
  unfolding chunks
  chunks_are small len padded =
      let whole : length file ≡ 44 + size + size % 2 = omega (arith, length_file, length-append sound pad) in (
        omega (arith, whole),
        sym format_is,
        λ whole_format. (
          omega (arith, whole),
          sym (data_is small len),
          λ whole_data more. absurd (omega (arith, whole, more)),
          λ past. absurd (omega (arith, whole, past)),
        ),
        λ past. absurd (omega (arith, whole, past)),
      )

  pub wave_read_back : IsWritable channels rate width → size < 4294967296 → length sound ≡ size → length pad ≡ pad_bytes size
      → wave file
      ≡ Ok (record {
        kind = Pcm;
        channels = channels;
        rate = rate;
        width = width;
        align = frame_bytes channels width;
        data_from = 44;
        data_len = size;
        frames = frames;
      })
  unfolding wave wave_of told_by chunks
  wave_read_back limits small len padded =
      let bytes_least : 1 ≤ frame_bytes channels width =
      mul-le 1 1 channels (width / 8) limits.channels_least (omega (arith, limits.width_least)) in
      let count : size / frame_bytes channels width ≡ frames = mul-div_cancel frames {n = frame_bytes channels width} bytes_least in
      let there : ChunksFrom None file first_chunk (chunks_of file) =
      rw opened (list_there None file (length file) first_chunk (omega arith)) in
      ap (wave_of file) (only_list None file first_chunk (chunks_of file) chunks there (chunks_are small len padded))
      ∙ rw (opened, format_read channels rate width limits, len, count) refl
