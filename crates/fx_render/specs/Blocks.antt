-- The effects on a file while they are written, block by block.
use Rattle.std.specs.Prelude.{◌≡◌, ℕ}
use Rattle.clip_decode.specs.Frames.{interleaved}
use Rattle.fx_nodes.specs.Stages.{StandsFor, effects_in, frames_taken}
use Rattle.fx_render.specs.declared.blocks.Blocks.{Blocks}
use Rattle.fx_render.specs.Effected.{effected_summary, stereo_frames}
use Rattle.fx_render.specs.Reading.{IsReading}

-- The chain has taken the frames of the file before the next one, and the summary is that of what it gave.
pub record IsRendering (b : Blocks) : Type 0 where
  pub reading : IsReading b.reader
  pub taken : StandsFor b.chain (interleaved (stereo_frames b.reader.clip.bytes 0 b.reader.next))
  pub frames : frames_taken b.chain ≡ b.reader.next
  pub summary_is : b.summary ≡ effected_summary b.reader.clip.bytes (effects_in b.chain) b.reader.next

-- all of so many frames are rendered, from the same file and by the same effects
pub record IsRendered (count : ℕ) (old new : Blocks) : Type 0 where
  pub rendering : IsRendering new
  pub clip : new.reader.clip ≡ old.reader.clip
  pub effects : effects_in new.chain ≡ effects_in old.chain
  pub frames_are : new.reader.next ≡ count
