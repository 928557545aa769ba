-- The room for the work on the nodes of a span.
use Rattle.std.specs.Prelude.{◌≡◌, ◌≢◌, ℕ, ◌+◌, ◌<◌, ◌≤◌, ◌*◌, ℤ, List, length}
use Rattle.mix_fixed.specs.Kernels.{at, AreSamples}
use Rattle.scene_model.specs.PlanData.{PlanData}
use Rattle.engine.specs.declared.room.Room.{Room}
use Rattle.engine.specs.FeedRoom.{HasFeedRoom}
use Rattle.engine.specs.Span.{node_places}

-- there is room for the samples of each node, and for the work on one
pub record IsRoomFor (p : PlanData) (r : Room) : Type 0 where
  pub kept_are : length p.nodes * node_places ≤ length r.kept.items
  pub kept_range : AreSamples r.kept.items
  pub feeds_are : HasFeedRoom (length p.buses) r.feeds
  pub samples_are : length r.samples.items ≡ node_places
  pub samples_range : AreSamples r.samples.items

-- the samples of all nodes but one are kept as they were
abbrev pub AreOthersKept : ℕ → List ℤ → List ℤ → Type 0
AreOthersKept n old new = (m j : ℕ) → m ≢ n → j < node_places → at new (m * node_places + j) ≡ at old (m * node_places + j)
