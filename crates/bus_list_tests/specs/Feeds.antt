-- What a test knows of a list beside its editor.
use Rattle.std.specs.Prelude.{◌≡◌, ℕ, zero, suc, ◌<◌, List, length, slice_index, Option, Some, None}
use Rattle.bus_list.specs.declared.history.Entry.{Entry}
use Rattle.bus_list.specs.Visits.{attached_feed}

-- 0 stands for no feed.
abbrev pub feed_at : ℕ → Option ℕ
feed_at zero = None
feed_at (suc n) = Some (suc n)

-- The feeds of the buses after the whole history.
abbrev pub Knows : List ℕ → List (Entry ℕ) → Type 0
Knows feeds history = (b : ℕ) → b < length feeds → attached_feed history b ≡ feed_at (slice_index feeds b)
