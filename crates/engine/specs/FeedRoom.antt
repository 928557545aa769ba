-- The room for the work on the input of a node.
use Rattle.std.specs.Prelude.{◌≡◌, ◌≤◌, ℕ, length}
use Rattle.engine.specs.declared.feeds.FeedRoom.{FeedRoom}
use Rattle.engine.specs.declared.feeds.Sums.{Sums}
use Rattle.engine.specs.Span.{node_places}

-- the most buses whose sums fit words of 32 bits, whatever their gains are: before the last of them a sum is at most 13 * 2^27
abbrev pub most_narrow_buses : ℕ
most_narrow_buses = 14

-- there is room for all sums
pub record HasSums (s : Sums) : Type 0 where
  pub narrow_are : length s.narrow.items ≡ node_places
  pub wide_are : length s.wide.items ≡ node_places

-- there is room for so many numbers, and for all sums
pub record HasFeedRoom (buses : ℕ) (r : FeedRoom) : Type 0 where
  pub numbers_are : buses ≤ length r.numbers.items
  pub sums_are : HasSums r.sums
