-- A file at a scene's rate and in its channels, as contracts see it, and what is kept of it.
use Rattle.std.specs.Prelude.{◌≡◌, ℕ, Bool, List, Ok}
use Rattle.clip_decode.specs.ClipData.{ClipData}
use Rattle.rate_fit.specs.Conversion.{IsConversion}
use Rattle.wave_read.specs.Wave.{wave}
use Rattle.wave_read.specs.Laws.{IsWaveOf}
use Rattle.scene_clips.specs.ConverterData.{ConverterData}
use Rattle.scene_clips.specs.Unchanged.{is_unchanged}

-- the bytes of the file, and the scene's rate and channels
pub record SceneClipData : Type 0 where
  pub bytes : List ℕ
  pub rate : ℕ
  pub channels : ℕ

-- the file says its wave, its rate is converted to the scene's, and it is known whether there is nothing to convert
pub record IsSceneClip (clip : ClipData) (converter : ConverterData) (unchanged : Bool) : Type 0 where
  pub surveyed : wave clip.bytes ≡ Ok clip.wave
  pub lawful : IsWaveOf clip.bytes clip.wave
  pub conversion : IsConversion converter.conversion
  pub input_rate : converter.conversion.input_rate ≡ clip.wave.rate
  pub frames : converter.conversion.frames ≡ clip.wave.frames
  pub unchanged_is : unchanged ≡ is_unchanged clip.bytes converter.conversion.output_rate converter.channels
