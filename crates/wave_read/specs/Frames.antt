-- How many frames a sound has.
--
-- A block of IMA ADPCM has a header of four bytes a channel, which gives one frame, and then four bits a sample
-- (Microsoft's description of IMA ADPCM in WAVE files). That a short last block counts with its whole groups of four
-- bytes a channel, which are eight frames, is this project's choice.
use Rattle.std.specs.Prelude.{ℕ, ◌+◌, ◌-◌, ◌*◌, ◌/◌, ◌%◌, min, zero, suc, nat_lt, if◌then◌else◌, Option, Some, None}
use Rattle.wave_read.specs.declared.format.Format.{Format}
use Rattle.wave_read.specs.declared.kind.Kind.{Kind}
use Rattle.wave_read.specs.declared.kind.Kind.TheVariants.{Pcm, Alaw, Ulaw, Ima}

unfoldable pub frames_per_block : ℕ → ℕ → ℕ
frames_per_block align channels = (2 * (align - 4 * channels)) / channels + 1

unfoldable pub frames_in_short_block : ℕ → ℕ → ℕ
frames_in_short_block len channels =
    if nat_lt len (4 * channels) then 0 else 1 + 8 * ((len - 4 * channels) / (4 * channels))

-- the frames of all whole blocks and of the short last one
unfoldable pub frames_held : ℕ → ℕ → ℕ → ℕ
frames_held align channels data_len =
    data_len / align * frames_per_block align channels + frames_in_short_block (data_len % align) channels

-- A `fact` chunk counts the frames of a compressed sound (Microsoft, "New Multimedia Data Types and Data Techniques"). A
-- count of 0 is ignored, and one of more frames than there are: both are this project's choice.
abbrev pub counted : Option ℕ → ℕ → ℕ
counted None frames = frames
counted (Some zero) frames = frames
counted (Some (suc n)) frames = min frames (suc n)

abbrev pub kind_frames : Kind → ℕ → ℕ → ℕ → Option ℕ → ℕ
kind_frames Pcm align channels data_len count = data_len / align
kind_frames Alaw align channels data_len count = data_len / align
kind_frames Ulaw align channels data_len count = data_len / align
kind_frames Ima align channels data_len count = counted count (frames_held align channels data_len)

abbrev pub frame_count : Format → ℕ → Option ℕ → ℕ
frame_count f data_len count = kind_frames f.kind f.align f.channels data_len count
