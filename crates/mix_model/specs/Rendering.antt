-- A scene while it is written, block by block.
use Rattle.std.specs.Prelude.{◌≡◌, ℕ, ℤ, List, Result, Ok, Err}
use Rattle.clip_decode.specs.Frames.{interleaved}
use Rattle.scene_model.specs.SceneData.{SceneData}
use Rattle.snd_io.specs.declared.answers.Put.{Put}
use Rattle.snd_io.specs.declared.answers.Put.TheVariants.{Done, Failed, OutOfMemory as PutOutOfMemory}
use Rattle.wave_write.specs.Samples.{packed}
use Rattle.mix_model.specs.declared.blocks.Blocks.{Blocks}
use Rattle.mix_model.specs.declared.mix_fault.MixFault.{MixFault}
use Rattle.mix_model.specs.declared.mix_fault.MixFault.TheVariants.{SinkFault, OutOfMemory}
use Rattle.mix_model.specs.declared.summary.Summary.{Summary}
use Rattle.mix_model.specs.Mix.{frames_from}
use Rattle.mix_model.specs.Playing.{IsBefore}
use Rattle.mix_model.specs.Summary.{summary}

-- the samples of frames, packed at the scene's width
abbrev pub data_of : SceneData → List (List ℤ) → List ℕ
data_of s frames = packed s.width (interleaved frames)

-- the summary of frames at the scene's width
abbrev pub summary_of : SceneData → List (List ℤ) → Summary
summary_of s frames = summary (interleaved frames) (data_of s frames)

-- the frames before that of the player
abbrev pub frames_before : SceneData → Blocks → List (List ℤ)
frames_before s b = frames_from b.player.clips.items s 0 b.player.time

pub record IsRendered (s : SceneData) (b : Blocks) : Type 0 where
  pub before : IsBefore s b.player
  pub summary_is : b.summary ≡ summary_of s (frames_before s b)

-- the answer of a sink that ends a mix in this way
abbrev pub fault_answer : MixFault → Put
fault_answer SinkFault = Failed
fault_answer OutOfMemory = PutOutOfMemory

abbrev pub answer_of : {T : Type 0} → Result T MixFault → Put
answer_of (Ok x) = Done
answer_of (Err fault) = fault_answer fault
