-- The step indices in the headers of IMA blocks. A channel has four bytes of a block's header: its first sample in two
-- bytes, its step index, and a byte that is not looked at (Microsoft's description of IMA ADPCM in WAVE files). The step
-- table has the rows 0 to 88 (IMA Digital Audio, "Recommended Practices for Enhancing Digital Audio Compatibility").
use Rattle.std.specs.Prelude.{ℕ, ◌+◌, ◌*◌, nat_lt, List, slice_index, Option, is_some}
use Rattle.std.specs.Int.{div_ceil}
use Rattle.std.specs.List.{find, range_with_len}
use Rattle.std.specs.Option.{option_map, option_and_then}
use Rattle.wave_read.specs.Frames.{frames_per_block}
use Rattle.wave_read.specs.declared.wave.Wave.{Wave}
use Rattle.wave_read.specs.declared.wave_fault.WaveFault.{WaveFault}
use Rattle.wave_read.specs.declared.wave_fault.WaveFault.TheVariants.{StepIndex}

abbrev pub last_step : ℕ
last_step = 88

-- the step index of a channel in the header of a block
abbrev pub step_index : List ℕ → Wave → ℕ → ℕ → ℕ
step_index bytes w block channel = slice_index bytes (w.data_from + block * w.align + 4 * channel + 2)

-- how many blocks hold a frame of the sound
unfoldable pub block_count : Wave → ℕ
block_count w = div_ceil w.frames (frames_per_block w.align w.channels)

-- the first channel of a block whose step index is no row of the table
unfoldable pub bad_channel : List ℕ → Wave → ℕ → Option ℕ
bad_channel bytes w block =
    find (λ channel. nat_lt last_step (step_index bytes w block channel)) (range_with_len 0 w.channels)

-- the first block that has such a channel
unfoldable pub bad_block : List ℕ → Wave → Option ℕ
bad_block bytes w = find (λ block. is_some (bad_channel bytes w block)) (range_with_len 0 (block_count w))

abbrev pub block_fault : List ℕ → Wave → ℕ → Option WaveFault
block_fault bytes w block =
    option_map (λ channel. StepIndex block channel (step_index bytes w block channel)) (bad_channel bytes w block)

-- the fault of that channel of that block
abbrev pub step_fault : List ℕ → Wave → Option WaveFault
step_fault bytes w = option_and_then (block_fault bytes w) (bad_block bytes w)
