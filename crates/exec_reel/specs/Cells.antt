-- The cells of a table, before it is shared.
use Rattle.std.specs.Prelude.{◌≡◌, ℕ, ◌+◌, ◌≤◌, ◌<◌, List, length}
use mathlib.Core.Option.{some}
use lib.ListN.{get_elem?}
use Rattle.clip_decode.specs.ClipData.{ClipData}
use Rattle.clip_decode.specs.Cursors.{StandsAt}
use Rattle.clip_decode.specs.Pages.{PageData}
use Rattle.clip_decode.specs.declared.cursor.Cursor.{Cursor}
use Rattle.exec_reel.specs.ClipPages.{page_total, page_of, empty_page, ComesTo}
use Rattle.exec_reel.specs.declared.cell.Cell.{Cell}
use Rattle.exec_reel.specs.declared.cell.Cell.TheVariants.{Decoder, Page}

-- A cursor that filled the pages below k, or those below `filled` where they are fewer.
pub record ComesAfter (clip : ClipData) (filled k : ℕ) (cursor : Cursor) : Type 0 where
  pub before : k < filled → cursor.page ≡ k
  pub after : filled ≤ k → cursor.page ≡ filled
  pub stands : StandsAt clip.bytes cursor

-- Page k is filled where it is below `filled`, and else it is empty.
pub record LiesAt (clip : ClipData) (filled k : ℕ) (page : PageData) : Type 0 where
  pub full : k < filled → page ≡ page_of clip k
  pub empty : filled ≤ k → page ≡ empty_page clip

-- The first n pages of the clip, of which those below `filled` are filled and the others are empty.
pub record ArePages (clip : ClipData) (filled n : ℕ) (cells : List Cell) : Type 0 where
  pub count : length cells ≡ n
  pub full : (j : ℕ) → j < n → j < filled → get_elem? cells j ≡ some (Page (page_of clip j))
  pub empty : (j : ℕ) → j < n → filled ≤ j → get_elem? cells j ≡ some (Page (empty_page clip))

-- All pages of the clip, of which the first are filled, and behind them the cursor, which comes to the first one that isn't.
pub record AreCells (clip : ClipData) (filled : ℕ) (cells : List Cell) : Type 0 where
  pub count : length cells ≡ page_total clip + 1
  pub full : (j : ℕ) → j < page_total clip → j < filled → get_elem? cells j ≡ some (Page (page_of clip j))
  pub empty : (j : ℕ) → j < page_total clip → filled ≤ j → get_elem? cells j ≡ some (Page (empty_page clip))
  pub cursor : (x : Cursor) × (get_elem? cells (page_total clip) ≡ some (Decoder x)) × ComesTo clip filled x
