-- The clips of tapes at a scene's rate and in its channels.
use Rattle.std.specs.Prelude.{ℕ}
use Rattle.scene_clips.specs.SceneClipData.{SceneClipData}
use Rattle.resource_mgr.specs.Tapes.{bytes_of}
use Rattle.resource_mgr.specs.declared.tape.Tape.{Tape}

abbrev pub clip_of_tape : ℕ → ℕ → Tape → SceneClipData
clip_of_tape rate channels t = record { bytes = bytes_of t; rate = rate; channels = channels }
