-- The nodes of a span, in an order in which each stands behind those that feed it.
use Rattle.std.specs.Prelude.{◌≡◌, ℕ, ◌<◌, ◌≤◌, Bool, true, ℤ, List, All, Contains, length, map, slice_index, Some}
use Rattle.std.specs.List.Sorted.{IsPermutation}
use Rattle.scene_clips.specs.SceneClipData.{SceneClipData}
use Rattle.scene_model.specs.declared.bus.Bus.{Bus}
use Rattle.scene_model.specs.declared.node.NodeKind.{NodeKind}
use Rattle.scene_model.specs.declared.node.NodeKind.TheVariants.{Sound}
use Rattle.scene_model.specs.IsPlan.{IsPlan}
use Rattle.scene_model.specs.PlanData.{PlanData}
use Rattle.mix_model.specs.Mix.{kind_frames}
use Rattle.mix_model.specs.OrderedBuses.{IsOrdered, mark_at}
use Rattle.mix_model.specs.Pulled.{node, pulled}
use Rattle.mix_model.specs.Spans.{IsSteady}
use Rattle.resource_mgr.specs.Tapes.{files_of}
use Rattle.engine.specs.declared.playback.Playback.{Playback}
use Rattle.engine.specs.Room.{IsRoomFor}
use Rattle.engine.specs.Span.{Span, AreOutputs, kept_at}

-- the nodes of a plan by their numbers, each behind all whose buses lead to it
pub record IsOrderOf (p : PlanData) (order : List ℕ) : Type 0 where
  pub numbers : All (λ n. n < length p.nodes) order
  pub whole : (n : ℕ) → n < length p.nodes → Contains order n
  pub behind : (k : ℕ) (b : Bus) → k < length order → Contains p.buses b → b.to ≡ Some (slice_index order k) →
      (i : ℕ) × (i < k) × (slice_index order i ≡ b.node)

-- the lists by which a span is played are those of the plan: an order of its nodes and one of its buses, the clips and their tapes,
-- places in them, and room
pub record IsPlayable (p : Playback) : Type 0 where
  pub plan_is : IsPlan p.stage
  pub channels_least : 1 ≤ p.channels
  pub channels_most : p.channels ≤ 2
  pub clips_are : All (λ (c : SceneClipData). c.channels ≡ p.channels) p.clips.items
  pub tapes_are : files_of p.tapes.items ≡ map (λ (c : SceneClipData). c.bytes) p.clips.items
  pub frames_are : (n : ℕ) → n < length p.stage.nodes → slice_index p.frames n ≡ kind_frames p.clips.items (node p.stage n).kind
  pub cursors_most : (n : ℕ) → n < length p.stage.nodes → slice_index p.cursors n ≤ slice_index p.frames n
  pub order_is : IsOrderOf p.stage p.order.items
  pub permutation : IsPermutation p.stage.buses p.ordered_buses.items
  pub ordered : IsOrdered p.ordered_buses.items
  pub room_is : IsRoomFor p.stage p.room

-- a span of so many frames from the frame of the playback on, at which nodes are active where they are at the first
pub record IsSpanOf (s : Span) (p : Playback) (count : ℕ) : Type 0 where
  pub plan_is : s.first.plan ≡ p.stage
  pub time_is : s.first.time ≡ p.time
  pub channels_are : s.channels ≡ p.channels
  pub steady : IsSteady p.stage p.time count
  pub clips_are : s.first.clips ≡ p.clips.items
  pub cursors_are : (n : ℕ) → s.first.cursor n ≡ slice_index p.cursors n
  pub frames_are : (n : ℕ) → s.frames n ≡ slice_index p.frames n

-- the nodes that are pulled at the frame are marked
abbrev pub AreMarked : Playback → Type 0
AreMarked p = (n : ℕ) → n < length p.stage.nodes → mark_at p.marks n ≡ pulled p.stage p.time n

-- the outputs of the first nodes of the order are kept, of those that are pulled
abbrev pub AreKept : Span → ℕ → ℕ → List ℕ → List ℤ → Type 0
AreKept s count i order kept =
    (k : ℕ) → k < i → pulled s.first.plan s.first.time (slice_index order k) ≡ true → AreOutputs s count (slice_index order k) (kept_at kept (slice_index order k))

-- a sound of this resource
abbrev pub IsSoundOf : ℕ → NodeKind → Type 0
IsSoundOf resource kind = (looped : Bool) × (kind ≡ Sound resource looped)
