-- The header of a PCM WAVE file that has its format and its data and no other chunk (Microsoft's RIFF WAVE description):
-- 44 bytes. `rate` is in Hz, `width` in bits, `frames` counts frames.
use Rattle.std.specs.Prelude.{ℕ, ◌+◌, ◌*◌, ◌/◌, ◌%◌, List, ◌++◌, codes}
use Rattle.byteorder.specs.Endian.{little_bytes}

-- the bytes of a frame, nBlockAlign
abbrev pub frame_bytes : ℕ → ℕ → ℕ
frame_bytes channels width = channels * (width / 8)

-- the bytes of all frames, the size of the data chunk
abbrev pub data_bytes : ℕ → ℕ → ℕ → ℕ
data_bytes channels width frames = frames * frame_bytes channels width

-- a chunk of an odd size is followed by one byte, 0
abbrev pub pad_bytes : ℕ → ℕ
pad_bytes size = size % 2

-- the format chunk: tag 1 is PCM
abbrev pub format_chunk : ℕ → ℕ → ℕ → List ℕ
format_chunk channels rate width =
    codes "fmt " ++ little_bytes 4 16
    ++ little_bytes 2 1 ++ little_bytes 2 channels ++ little_bytes 4 rate
    ++ little_bytes 4 (rate * frame_bytes channels width) ++ little_bytes 2 (frame_bytes channels width) ++ little_bytes 2 width

-- the whole header. The RIFF size counts all that follows it: the rest of the header, the data and its pad byte
unfoldable pub header : ℕ → ℕ → ℕ → ℕ → List ℕ
header channels rate width frames =
    let size = data_bytes channels width frames in
    codes "RIFF" ++ little_bytes 4 (36 + size + pad_bytes size) ++ codes "WAVE"
    ++ format_chunk channels rate width
    ++ codes "data" ++ little_bytes 4 size
