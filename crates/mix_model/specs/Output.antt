-- The file that a scene is rendered to. A frame is the list of its samples, one for each channel, in 24 bits.
use Rattle.std.specs.Prelude.{ℕ, ℤ, List, ◌++◌, length, replicate}
use Rattle.wave_write.specs.Header.{header, data_bytes, pad_bytes}
use Rattle.wave_write.specs.Samples.{packed}
use Rattle.clip_decode.specs.Frames.{interleaved}
use Rattle.scene_model.specs.SceneData.{SceneData}

-- the zero byte after data of an odd size, and none after data of an even one
abbrev pub padding : ℕ → List ℕ
padding size = replicate (pad_bytes size) 0

-- the WAVE file of frames at the scene's rate, channels and width: the header, the packed samples, the pad byte if there is one
unfoldable pub wav : SceneData → List (List ℤ) → List ℕ
wav scene frames =
    header scene.channels scene.rate scene.width (length frames)
    ++ packed scene.width (interleaved frames)
    ++ padding (data_bytes scene.channels scene.width (length frames))
