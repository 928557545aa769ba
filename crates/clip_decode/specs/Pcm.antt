-- Samples of linear PCM, as numbers of 24 bits.
--
-- A container of one byte is unsigned, and 128 is its zero; a longer one is in two's complement, the lowest byte first
-- (Microsoft and IBM, "Multimedia Programming Interface and Data Specifications 1.0", "Data Format of the Samples").
--
-- The container counts, and not the bits of a sample that the file states: the standard puts a sample of fewer bits into
-- the highest bits of its container. Low bits that are not used are not masked, and 24 bits are kept of 32: both are
-- this project's choice.
use Rattle.std.specs.Prelude.{ℕ, ◌==◌, ℤ, pos, ◌-ℤ◌, ◌*ℤ◌, if◌then◌else◌, List, length, slice_index}
use Rattle.std.specs.Int.{int_div_euclid}
use Rattle.byteorder.specs.Endian.{little_number, twos_complement}
use Rattle.wave_read.specs.declared.wave.Wave.{Wave}
use Rattle.clip_decode.specs.Containers.{container_of}
use Rattle.clip_decode.specs.Widened.{widened}

-- the signed number in the first n bytes, the lowest first
abbrev pub signed_number : ℕ → List ℕ → ℤ
signed_number n bytes = twos_complement n (little_number n bytes)

-- the sample in a container of 1 to 4 bytes. A number of four bytes is divided by 256, rounded down
unfoldable pub pcm_value : List ℕ → ℤ
pcm_value container =
    if length container == 1 then (pos (slice_index container 0) -ℤ pos 128) *ℤ pos 65536 else
    if length container == 2 then widened (signed_number 2 container) else
    if length container == 3 then signed_number 3 container else
    int_div_euclid (signed_number 4 container) (pos 256)

-- the sample of a channel in a frame
unfoldable pub pcm_sample : List ℕ → Wave → ℕ → ℕ → ℤ
pcm_sample bytes w frame channel = pcm_value (container_of bytes w frame channel)
