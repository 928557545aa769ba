-- What the WAVE file of a scene says of its sound when it is read.
use Rattle.std.specs.Prelude.{◌≡◌, ℤ, List, length, All}
use Rattle.scene_model.specs.SceneData.{SceneData}
use Rattle.wave_read.specs.declared.kind.Kind.TheVariants.{Pcm}
use Rattle.wave_read.specs.declared.wave.Wave.{Wave}
use Rattle.wave_write.specs.Header.{frame_bytes, data_bytes}

-- these are as many frames as the scene has, of one sample a channel
pub record AreFramesOf (s : SceneData) (frames : List (List ℤ)) : Type 0 where
  pub count : length frames ≡ s.length
  pub widths : All (λ frame. length frame ≡ s.channels) frames

-- PCM of the scene's channels, rate, width and length. Its data stand behind the 44 bytes of the header, and a pad byte
-- is none of them
abbrev pub written_wave : SceneData → Wave
written_wave s = record {
  kind = Pcm;
  channels = s.channels;
  rate = s.rate;
  width = s.width;
  align = frame_bytes s.channels s.width;
  data_from = 44;
  data_len = data_bytes s.channels s.width s.length;
  frames = s.length;
}
