-- Samples of IMA ADPCM, as numbers of 24 bits.
--
-- The sound is blocks of `align` bytes, of which the last one may be shorter. Each block starts anew, so that a frame
-- needs its own block alone (Microsoft, "New Multimedia Data Types and Data Techniques": IMA ADPCM, tag 0x11).
use Rattle.std.specs.Prelude.{ℕ, ◌+◌, ◌-◌, ◌*◌, ◌/◌, ◌%◌, min, ℤ, List, take, drop}
use Rattle.ima_adpcm.specs.Blocks.{block_frames, block_sample}
use Rattle.wave_read.specs.declared.wave.Wave.{Wave}
use Rattle.clip_decode.specs.Widened.{widened}

-- the bytes of a block, as many as the sound has of it
unfoldable pub block_bytes : List ℕ → Wave → ℕ → List ℕ
block_bytes bytes w block =
    take (min w.align (w.data_len - block * w.align)) (drop (w.data_from + block * w.align) bytes)

-- the frames of a whole block
abbrev pub frames_per_block : Wave → ℕ
frames_per_block w = block_frames w.align w.channels

-- the block that has a frame, and the frame's number in it
abbrev pub block_number : Wave → ℕ → ℕ
block_number w frame = frame / frames_per_block w

abbrev pub frame_in_block : Wave → ℕ → ℕ
frame_in_block w frame = frame % frames_per_block w

-- the sample of a channel in a frame
unfoldable pub ima_sample : List ℕ → Wave → ℕ → ℕ → ℤ
ima_sample bytes w frame channel =
    widened (block_sample (block_bytes bytes w (block_number w frame)) w.channels channel (frame_in_block w frame))
