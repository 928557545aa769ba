-- A file whose frames are read from any of them on.
use Rattle.std.specs.Prelude.{◌≡◌, ℕ, ◌+◌}
use Rattle.clip_decode.specs.Cursors.{StandsAt}
use Rattle.clip_decode.specs.Frames.{interleaved}
use Rattle.clip_decode.specs.Pages.{page_frames}
use Rattle.cut_render.specs.declared.frame_reader.FrameReader.{FrameReader}

-- The page before the one where the cursor stands is held, if there is one.
pub record IsReading (r : FrameReader) : Type 0 where
  pub stands : StandsAt r.clip.bytes r.cursor
  pub channels : r.page.channels ≡ r.clip.wave.channels
  pub held : (k : ℕ) → r.cursor.page ≡ k + 1 → r.page.samples ≡ interleaved (page_frames r.clip.bytes k)
