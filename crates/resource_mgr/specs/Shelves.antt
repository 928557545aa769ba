-- A library that was opened, with its desks, its poster and its tapes.
use Rattle.std.specs.Prelude.{◌≡◌, ℕ, ◌+◌, ◌<◌, List, Some, All, length, map}
use Rattle.std.specs.List.{range_with_len}
use Rattle.clip_decode.specs.ClipData.{ClipData}
use Rattle.slot_tags.specs.Tags.{groups_of, last_of}
use Rattle.job_queue.specs.Queues.{slot_table_of}
use Rattle.resource_mgr.specs.Desks.{queue_of, desk_number, left_of, IsDeskOf, IsNewDeskOf}
use Rattle.resource_mgr.specs.PageOrder.{all_pages, pages_of_tape}
use Rattle.resource_mgr.specs.Tapes.{clip_of}
use Rattle.resource_mgr.specs.Works.{page_in}
use Rattle.resource_mgr.specs.declared.library.Shelf.{Shelf}

-- a shelf with a desk at least, whose desks are those of its library
pub record IsShelf (s : Shelf) : Type 0 where
  pub some : 0 < length s.desks.items
  pub desks : All (IsDeskOf s.library) s.desks.items

-- The shelf of these clips. All pages of its tapes are left to post: page 0 of each in order, then page 1 of each, and so on.
pub record IsNewShelf (clips : List ClipData) (workers : ℕ) (s : Shelf) : Type 0 where
  pub clips_are : map clip_of s.tapes.items ≡ clips
  pub slots : (groups_of (slot_table_of (queue_of s.library)) ≡ 32) × (last_of (slot_table_of (queue_of s.library)) ≡ 4294967295)
  pub count : length s.desks.items ≡ workers + 1
  pub numbers : map desk_number s.desks.items ≡ range_with_len 1 (workers + 1)
  pub new : All (IsNewDeskOf s.library) s.desks.items
  pub desks : All (IsDeskOf s.library) s.desks.items
  pub left : map page_in (left_of s.poster) ≡ map (λ page. Some page) (all_pages (map pages_of_tape s.tapes.items))
