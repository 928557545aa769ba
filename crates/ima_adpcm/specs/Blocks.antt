-- A block of the WAVE form of IMA ADPCM (Microsoft, "New Multimedia Data Types and Data Techniques": IMA ADPCM, tag 0x11).
-- It begins with one header word for each channel. Then groups follow: in each, every channel in turn has one word, with
-- its next eight codes. Frame 0 is the headers' predictors, and each code gives its channel's part of one further frame.
use Rattle.std.specs.Prelude.{ℕ, zero, suc, ◌+◌, ◌-◌, ◌*◌, ◌/◌, ◌%◌, List, map, length, ℤ, ◌==◌, nat_lt, slice_index, if◌then◌else◌}
use Rattle.std.specs.List.{range_with_len}
use Rattle.std.specs.Int.{cast_signed, w16}
use Rattle.ima_adpcm.specs.Decoder.{State, after}

-- the bytes of one channel's word, in the header and in each group
abbrev pub word_bytes : ℕ
word_bytes = 4

-- the codes of a word, two in each byte
abbrev pub word_codes : ℕ
word_codes = 8

-- how many frames a block of n bytes has: a group that is not whole gives none
abbrev pub block_frames : ℕ → ℕ → ℕ
block_frames n ch =
    if nat_lt n (word_bytes * ch) then 0
    else 1 + word_codes * ((n - word_bytes * ch) / (word_bytes * ch))

-- the byte that holds code j, from 0, of channel c
abbrev pub code_place : ℕ → ℕ → ℕ → ℕ
code_place ch c j =
    word_bytes * ch + word_bytes * ch * (j / word_codes) + word_bytes * c + j % word_codes / 2

-- code j of channel c: the low half of its byte where j is even, and else the high half
unfoldable pub code_at : List ℕ → ℕ → ℕ → ℕ → ℕ
code_at bytes ch c j =
    let byte = slice_index bytes (code_place ch c j) in
    if j % 2 == 0 then byte % 16 else byte / 16

-- the first n codes of channel c
abbrev pub first_codes : List ℕ → ℕ → ℕ → ℕ → List ℕ
first_codes bytes ch c n = map (code_at bytes ch c) (range_with_len 0 n)

-- a header word: the predictor as a signed number of 16 bits, the step index, and a byte that is not looked at
abbrev pub header_predictor : List ℕ → ℕ → ℤ
header_predictor bytes c =
    cast_signed w16 (slice_index bytes (word_bytes * c) + slice_index bytes (word_bytes * c + 1) * 256)

abbrev pub header_index : List ℕ → ℕ → ℕ
header_index bytes c = slice_index bytes (word_bytes * c + 2)

-- the decoder of channel c at the block's start
unfoldable pub header : List ℕ → ℕ → State
header bytes c = record { predictor = header_predictor bytes c; index = header_index bytes c }

-- what s becomes by the n codes of channel c from code `from` on
unfoldable pub state_after : List ℕ → ℕ → ℕ → ℕ → State → ℕ → State
state_after bytes ch c from s zero = s
state_after bytes ch c from s (suc n) =
    after (state_after bytes ch c from s n) (code_at bytes ch c (from + n))

-- the samples of those codes: that of the first one is number 0
abbrev pub samples_after : List ℕ → ℕ → ℕ → ℕ → State → ℕ → ℤ
samples_after bytes ch c from s i = (state_after bytes ch c from s (i + 1)).predictor

-- the decoder of channel c at frame f
unfoldable pub block_state : List ℕ → ℕ → ℕ → ℕ → State
block_state bytes ch c f = state_after bytes ch c 0 (header bytes c) f

-- the sample of channel c at frame f
abbrev pub block_sample : List ℕ → ℕ → ℕ → ℕ → ℤ
block_sample bytes ch c f = (block_state bytes ch c f).predictor

-- the samples of all frames, interleaved: frame f of channel c stands at f * ch + c
unfoldable pub block_samples : List ℕ → ℕ → List ℤ
block_samples bytes ch =
    map (λ k. block_sample bytes ch (k % ch) (k / ch)) (range_with_len 0 (block_frames (length bytes) ch * ch))
