-- What the body of a `fmt ` chunk says: the WAVEFORMAT of Microsoft and IBM, "Multimedia Programming Interface and Data
-- Specifications 1.0", and the WAVEFORMATEXTENSIBLE of Microsoft, "Multiple Channel Audio Data and WAVE Files".
--
--   0  format tag          2  channels              4  frames a second     8  average bytes a second
--   12 bytes of a block    14 bits of a sample      24 SubFormat, sixteen bytes, where the format is extensible
--
-- The average of bytes a second and, in an extensible format, its size, its valid bits and its mask of channels are not
-- looked at; neither are the bits of a sample of G.711 and IMA, nor the frames of an IMA block (wSamplesPerBlock). The
-- sound doesn't need them. This is lenient, and this project's choice.
use Rattle.std.specs.Prelude.{ℕ, ◌*◌, ◌/◌, ◌%◌, ◌==◌, ◌&&◌, Bool, not, nat_le, nat_lt, if◌then◌else◌, nat_eq, List, [], ◌∷◌, length, drop, Result, Ok, Err}
use Rattle.std.specs.List.{starts_with}
use Rattle.wave_read.specs.Numbers.{u16_at, u32_at}
use Rattle.wave_read.specs.declared.format.Format.{Format}
use Rattle.wave_read.specs.declared.kind.Kind.{Kind}
use Rattle.wave_read.specs.declared.kind.Kind.TheVariants.{Pcm, Alaw, Ulaw, Ima}
use Rattle.wave_read.specs.declared.wave_fault.WaveFault.{WaveFault}
use Rattle.wave_read.specs.declared.wave_fault.WaveFault.TheVariants.{FmtShort, Unsupported, Channels, Rate, Width, ImaAlign}

-- the next step, on what this one gives, unless it fails
infixl 10 ◌>>=◌
abbrev pub ◌>>=◌ : {A B : Type 0} → Result A WaveFault → (A → Result B WaveFault) → Result B WaveFault
(Ok x) >>= f = f x
(Err fault) >>= f = Err fault

abbrev pub is_from : ℕ → ℕ → ℕ → Bool
is_from low high n = nat_le low n && nat_le n high

-- WAVE_FORMAT_EXTENSIBLE
abbrev pub extensible : ℕ
extensible = 0xfffe

-- A SubFormat that stands for a format tag is the tag and these fourteen bytes.
abbrev pub sub_format_tail : List ℕ
sub_format_tail = 0 ∷ 0 ∷ 0 ∷ 0 ∷ 0x10 ∷ 0 ∷ 0x80 ∷ 0 ∷ 0 ∷ 0xaa ∷ 0 ∷ 0x38 ∷ 0x9b ∷ 0x71 ∷ []

unfoldable pub has_sub_format_tag : List ℕ → Bool
has_sub_format_tag body = starts_with nat_eq (drop 26 body) sub_format_tail

-- the format tag, for an extensible format that of its SubFormat
unfoldable pub tag_of : List ℕ → Result ℕ WaveFault
tag_of body =
    if nat_lt (length body) 16 then Err (FmtShort (length body)) else
    if not (u16_at body 0 == extensible) then Ok (u16_at body 0) else
    if nat_lt (length body) 40 then Err (FmtShort (length body)) else
    if not (has_sub_format_tag body) then Err (Unsupported extensible) else
    Ok (u16_at body 24)

-- WAVE_FORMAT_PCM, WAVE_FORMAT_ALAW, WAVE_FORMAT_MULAW and WAVE_FORMAT_IMA_ADPCM
abbrev pub kind_of : ℕ → Result Kind WaveFault
kind_of tag =
    if tag == 1 then Ok Pcm else
    if tag == 6 then Ok Alaw else
    if tag == 7 then Ok Ulaw else
    if tag == 17 then Ok Ima else
    Err (Unsupported tag)

-- the limits of channels and rate are this project's
abbrev pub channel_count : ℕ → Result ℕ WaveFault
channel_count n = if is_from 1 8 n then Ok n else Err (Channels n)

abbrev pub sample_rate : ℕ → Result ℕ WaveFault
sample_rate n = if is_from 1 768000 n then Ok n else Err (Rate n)

-- In PCM a sample has a container of 1 to 4 whole bytes, and at least one and at most all of its bits.
unfoldable pub pcm_width : ℕ → ℕ → ℕ → Result ℕ WaveFault
pcm_width channels align bits =
    let container = align / channels in
    if (align % channels == 0) && is_from 1 4 container && is_from 1 (8 * container) bits
    then Ok (8 * container)
    else Err (Width bits align)

-- the bits of a sample as it is stored
abbrev pub sample_width : Kind → ℕ → ℕ → ℕ → Result ℕ WaveFault
sample_width Pcm channels align bits = pcm_width channels align bits
sample_width Alaw channels align bits = if align == channels then Ok 8 else Err (Width bits align)
sample_width Ulaw channels align bits = if align == channels then Ok 8 else Err (Width bits align)
sample_width Ima channels align bits =
    if nat_le (4 * channels) align && (align % (4 * channels) == 0) then Ok 4 else Err (ImaAlign align)

unfoldable pub format_of : List ℕ → Result Format WaveFault
format_of body = do
  tag ← tag_of body
  kind ← kind_of tag
  channels ← channel_count (u16_at body 2)
  rate ← sample_rate (u32_at body 4)
  width ← sample_width kind channels (u16_at body 12) (u16_at body 14)
  Ok (record { kind = kind; channels = channels; rate = rate; width = width; align = u16_at body 12 })
