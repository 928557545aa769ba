-- Clips whose files have the scene's rate and channels.
use Rattle.std.specs.Prelude.{ℕ, Bool, ◌&&◌, ◌==◌, List, Result, Ok, Err}
use Rattle.wave_read.specs.Wave.{wave}
use Rattle.wave_read.specs.declared.wave.Wave.{Wave}
use Rattle.wave_read.specs.declared.wave_fault.WaveFault.{WaveFault}
use Rattle.scene_clips.specs.ClipFrames.{file_rate}

-- the channels of a file. One that is refused has no frames, and this number stands for any
abbrev pub channels_said : Result Wave WaveFault → ℕ
channels_said (Ok w) = w.channels
channels_said (Err fault) = 1

abbrev pub file_channels : List ℕ → ℕ
file_channels bytes = channels_said (wave bytes)

-- the file has this rate and these channels, so that its frames are the clip's as they stand
abbrev pub is_unchanged : List ℕ → ℕ → ℕ → Bool
is_unchanged bytes rate channels = file_rate bytes == rate && file_channels bytes == channels
