-- A file that is read frame by frame, page after page.
use Rattle.std.specs.Prelude.{◌≡◌, ◌+◌, ◌/◌, ◌%◌, ◌<◌}
use Rattle.clip_decode.specs.Cursors.{StandsAt}
use Rattle.clip_decode.specs.Frames.{interleaved}
use Rattle.clip_decode.specs.Pages.{frames_per_page, page_frames}
use Rattle.fx_render.specs.declared.stereo_reader.StereoReader.{StereoReader}

-- The cursor stands at the page of the next frame, where this is the first frame of its page. Else that page is held, and the
-- cursor stands behind it.
pub record IsReading (r : StereoReader) : Type 0 where
  pub stands : StandsAt r.clip.bytes r.cursor
  pub channels : r.page.channels ≡ r.clip.wave.channels
  pub ahead : r.next < r.clip.wave.frames → r.next % frames_per_page ≡ 0 → r.cursor.page ≡ r.next / frames_per_page
  pub behind : r.next < r.clip.wave.frames → 0 < r.next % frames_per_page → r.cursor.page ≡ r.next / frames_per_page + 1
  pub held : r.next < r.clip.wave.frames → 0 < r.next % frames_per_page
      → r.page.samples ≡ interleaved (page_frames r.clip.bytes (r.next / frames_per_page))

-- The page of the next frame is held, if the file has that frame, and the cursor stands behind it.
pub record IsHeld (r : StereoReader) : Type 0 where
  pub stands : StandsAt r.clip.bytes r.cursor
  pub channels : r.page.channels ≡ r.clip.wave.channels
  pub behind : r.next < r.clip.wave.frames → r.cursor.page ≡ r.next / frames_per_page + 1
  pub held : r.next < r.clip.wave.frames → r.page.samples ≡ interleaved (page_frames r.clip.bytes (r.next / frames_per_page))
