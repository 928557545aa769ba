-- The first frames of a clip, kept at the scene's rate and in its channels.
use Rattle.std.specs.Prelude.{◌≡◌, ℕ, ◌*◌, ◌/◌, ◌%◌, ◌<◌, ◌≤◌, length}
use Rattle.mix_fixed.specs.Kernels.{at, AreSamples}
use Rattle.scene_clips.specs.SceneClipData.{SceneClipData}
use Rattle.scene_clips.specs.ClipFrames.{clip_length, clip_sample}
use Rattle.engine.specs.declared.kept_frames.KeptFrames.{KeptFrames}

-- the most frames that are kept of all clips together
abbrev pub most_cached_frames : ℕ
most_cached_frames = 4194304

-- there is room for the samples of so many frames of the clip, and those of the first are there, interleaved
pub record IsCached (c : SceneClipData) (kept : KeptFrames) : Type 0 where
  pub few : kept.most ≤ most_cached_frames
  pub there : kept.most ≤ clip_length c.bytes c.rate
  pub within : kept.frames ≤ kept.most
  pub channels_least : 1 ≤ c.channels
  pub channels_most : c.channels ≤ 2
  pub long : length kept.cells.items ≡ kept.most * c.channels
  pub cells_are : (j : ℕ) → j < kept.frames * c.channels → at kept.cells.items j ≡ clip_sample c.bytes c.rate c.channels (j / c.channels) (j % c.channels)
  pub range : AreSamples kept.cells.items
