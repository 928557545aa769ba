-- The frames of a scene before one of them.
use Rattle.std.specs.Prelude.{ℕ, ℤ, List}
use Rattle.scene_model.specs.SceneData.{SceneData}
use Rattle.mix_model.specs.Mix.{clips_of, frames_from}

-- where the resources have these files
abbrev pub frames_before : SceneData → List (List ℕ) → ℕ → List (List ℤ)
frames_before s files until = frames_from (clips_of s files) s 0 until
