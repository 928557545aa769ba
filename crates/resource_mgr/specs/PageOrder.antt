-- The order in which the pages of reels are decoded.
use Rattle.std.specs.Prelude.{◌≡◌, ℕ, min, max, nat_lt, List, map}
use Rattle.std.specs.List.{enumerate_from, filter, flat_map, fold, range_with_len}
use Rattle.atomic_table.specs.Seated.{TableId}
use Rattle.exec_reel.specs.ClipPages.{page_total}
use Rattle.exec_reel.specs.Reels.{clip_of, id_of, drawn_of, reel_of_reader}
use Rattle.resource_mgr.specs.Tapes as tapes
use Rattle.resource_mgr.specs.declared.source.Source.{Source}
use Rattle.resource_mgr.specs.declared.tape.Tape.{Tape}

-- a page that is to be decoded: the number of its resource, its own, and the reel that has it
pub record ReelPage : Type 0 where
  pub resource : ℕ
  pub page : ℕ
  pub reel : TableId

-- a reel, with the number of its pages
pub record ReelPages : Type 0 where
  pub reel : TableId
  pub pages : ℕ

abbrev pub pages_of_tape : Tape → ReelPages
pages_of_tape t = record { reel = reel_of_reader t.reader; pages = page_total (tapes.clip_of t) }

abbrev pub pages_of_source : Source → ReelPages
pages_of_source s = record { reel = id_of s.reel; pages = page_total (clip_of s.reel) }

-- page k of a reel with its number
abbrev pub page_at : ℕ → ℕ × ReelPages → ReelPage
page_at k x = record { resource = x.0; page = k; reel = x.1.reel }

-- page k of each reel that has it, in their order
abbrev pub pages_at : ℕ → List ReelPages → List ReelPage
pages_at k reels = map (page_at k) (filter (λ x. nat_lt k x.1.pages) (enumerate_from 0 reels))

abbrev pub most_pages : List ReelPages → ℕ
most_pages reels = fold (λ a x. max a x.pages) 0 reels

-- page 0 of each reel in order, then page 1 of each, and so on
abbrev pub all_pages : List ReelPages → List ReelPage
all_pages reels = flat_map (λ k. pages_at k reels) (range_with_len 0 (most_pages reels))

-- the tickets of the first k pages were drawn, or all where there are fewer
abbrev pub IsDrawnTo : ℕ → Source → Type 0
IsDrawnTo k s = drawn_of s.drawer ≡ min k (page_total (clip_of s.reel))
