-- What a reader of a reel was asked for.
use Rattle.std.specs.Prelude.{◌≡◌, ℕ, ◌<◌, ◌≤◌, List, ◌++◌}
use Rattle.exec_reel.specs.ClipPages.{page_total}
use Rattle.exec_reel.specs.ReadPages.{SameReel}
use Rattle.exec_reel.specs.Reels.{clip_of_reader, shown_of, taken_of, notes_of_reader}
use Rattle.exec_reel.specs.Rule.{IsAmong}
use Rattle.exec_reel.specs.declared.view.Note.{Note}
use Rattle.exec_reel.specs.declared.reader.Reader.{Reader}

-- a reader was asked for the first pages, and has them
pub record HasFirst (count : ℕ) (r : Reader) : Type 0 where
  pub most : count ≤ page_total (clip_of_reader r)
  pub shown : count ≤ shown_of r
  pub each : (k : ℕ) → k < count → IsAmong k (taken_of r)

-- a reader after some calls: it is of the same reel and clip, the pages that it was shown and those that it has are so still, and its
-- notes have grown
pub record IsLaterReader (r r' : Reader) : Type 0 where
  pub same : SameReel r r'
  pub rises : shown_of r ≤ shown_of r'
  pub taken : (k : ℕ) → IsAmong k (taken_of r) → IsAmong k (taken_of r')
  pub more : List Note
  pub notes : notes_of_reader r' ≡ notes_of_reader r ++ more
