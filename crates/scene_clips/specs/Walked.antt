-- A walk over the frames of a clip at the scene's rate.
use Rattle.std.specs.Prelude.{◌≡◌, ℕ, length}
use Rattle.clip_decode.specs.Frames.{frames}
use Rattle.rate_fit.specs.Conversion.{length_of, IsConversion}
use Rattle.rate_fit.specs.Walk.{Walk}
use Rattle.scene_clips.specs.ClipFrames.{clip_length, file_rate}
use Rattle.scene_clips.specs.SceneClipData.{SceneClipData}

-- it stands at frame n of this clip
pub record IsWalkOf (c : SceneClipData) (n : ℕ) (w : Walk) : Type 0 where
  pub input_is : w.fit.input_rate ≡ file_rate c.bytes
  pub output_is : w.fit.output_rate ≡ c.rate
  pub frames_are : w.fit.frames ≡ length (frames c.bytes)
  pub length_is : length_of w.fit ≡ clip_length c.bytes c.rate
  pub place_is : w.n ≡ n
  pub conversion : IsConversion w.fit
