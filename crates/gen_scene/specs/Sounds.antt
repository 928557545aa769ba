-- The sound files.
use Rattle.std.specs.Prelude.{ℕ, zero, suc, ◌+◌, ◌*◌, ◌%◌, nat_lt, if◌then◌else◌, ℤ, pos, ◌-ℤ◌, ◌*ℤ◌, List, ◌++◌, map, codes}
use Rattle.std.specs.Fmt.{decimal}
use Rattle.std.specs.List.{range_with_len}
use Rattle.wave_write.specs.Header.{header}
use Rattle.wave_write.specs.Samples.{packed}
use Rattle.gen_scene.specs.Draws.{draw}

abbrev pub sounds : ℕ
sounds = 8

abbrev pub sound_frames : ℕ
sound_frames = 220500

-- sound i is mono where i is even, and stereo where it is odd
abbrev pub sound_channels : ℕ → ℕ
sound_channels i = 1 + i % 2

-- Hz
abbrev pub sound_rate : ℕ → ℕ
sound_rate i = if nat_lt i 4 then 44100 else 48000

abbrev pub sound_samples : ℕ → ℕ
sound_samples i = sound_frames * sound_channels i

-- the number of the draw that is the first sample of sound i: draws go on from file to file
abbrev pub first_draw : ℕ → ℕ
first_draw zero = 0
first_draw (suc i) = first_draw i + sound_samples i

-- a sample of 16 bits is a draw less 32768, here as a sample of 24 bits
abbrev pub sample_of : ℕ → ℤ
sample_of number = (pos number -ℤ pos 32768) *ℤ pos 256

abbrev pub noise_sample : ℕ → ℕ → ℤ
noise_sample number n = sample_of (draw number n)

-- the samples that so many draws from draw `from` on are
abbrev pub noise : ℕ → ℕ → ℕ → List ℤ
noise number from count = map (noise_sample number) (range_with_len from count)

unfoldable pub sound_file : ℕ → ℕ → List ℕ
sound_file number i =
    header (sound_channels i) (sound_rate i) 16 sound_frames ++ packed 16 (noise number (first_draw i) (sound_samples i))

-- the bytes of so many samples, from the first draw of a state on
unfoldable pub noise_bytes : ℕ → ℕ → List ℕ
noise_bytes start count = packed 16 (noise start 0 count)

-- a sound file by the state after the draws before it
abbrev pub sound_from : ℕ → ℕ → List ℕ
sound_from start i = header (sound_channels i) (sound_rate i) 16 sound_frames ++ noise_bytes start (sound_samples i)

-- PREFIX-I.wav
abbrev pub sound_name : List ℕ → ℕ → List ℕ
sound_name prefix i = prefix ++ codes "-" ++ decimal i ++ codes ".wav"
