-- The pages of a clip, and a cursor that decodes them.
use Rattle.std.specs.Prelude.{◌≡◌, ℕ, []}
use Rattle.clip_decode.specs.ClipData.{ClipData}
use Rattle.clip_decode.specs.Cursors.{StandsAt}
use Rattle.clip_decode.specs.Frames.{interleaved}
use Rattle.clip_decode.specs.Pages.{PageData, page_count, page_frames}
use Rattle.clip_decode.specs.declared.cursor.Cursor.{Cursor}

-- how many pages the clip has
abbrev pub page_total : ClipData → ℕ
page_total clip = page_count clip.wave.frames

-- page k of the clip's file
abbrev pub page_of : ClipData → ℕ → PageData
page_of clip k = record { channels = clip.wave.channels; samples = interleaved (page_frames clip.bytes k) }

-- a page of the clip before it is filled
abbrev pub empty_page : ClipData → PageData
empty_page clip = record { channels = clip.wave.channels; samples = [] }

-- a cursor that fills page k of the clip next
pub record ComesTo (clip : ClipData) (k : ℕ) (cursor : Cursor) : Type 0 where
  pub page : cursor.page ≡ k
  pub stands : StandsAt clip.bytes cursor
