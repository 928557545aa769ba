-- The lists over which a frame is computed: the nodes, the buses in a topological order, the cursors, and the sums and marks
-- of nodes so far.
use Rattle.std.specs.Prelude.{◌≡◌, ◌≢◌, ◌<◌, ◌≤◌, ℕ, ◌*◌, Bool, false, ◌&&◌, ◌||◌, ◌==◌, ℤ, pos, neg_ℤ, ◌+ℤ◌, ◌≤ℤ◌, List, length, None, Some, All, slice_index, slice_index_or, if◌then◌else◌}
use Rattle.mix_fixed.specs.Sound.{sat24}
use Rattle.scene_clips.specs.SceneClipData.{SceneClipData}
use Rattle.scene_model.specs.declared.bus.Bus.{Bus}
use Rattle.scene_model.specs.declared.node_state.NodeState.{NodeState}
use Rattle.scene_model.specs.IsPlan.{IsBusOf}
use Rattle.scene_model.specs.Limits as limits
use Rattle.scene_model.specs.PlanData.{PlanData}
use Rattle.scene_model.specs.Reach.{HasNoCycle, target_passes}
use Rattle.mix_model.specs.Mix.{next_frame}
use Rattle.mix_model.specs.Pulled.{no_node, node, is_active}
use Rattle.mix_model.specs.Signals.{FrameState, share}

-- what a read past the end gives
abbrev pub no_bus : Bus
no_bus = record { node = 0; out = 0; to = None; gain = 0 }

abbrev pub plan_of : List NodeState → List Bus → PlanData
plan_of nodes buses = record { nodes = nodes; buses = buses }

abbrev pub frame_state_of : List NodeState → List Bus → ℕ → List SceneClipData → List ℕ → FrameState
frame_state_of nodes buses time clips cursors = record { plan = plan_of nodes buses; time = time; clips = clips; cursor = λ n. slice_index cursors n }

-- a topological order: no bus leads to its own node, nor to the node of a bus before it
abbrev pub IsOrdered : List Bus → Type 0
IsOrdered buses = (j k : ℕ) → j ≤ k → k < length buses → (slice_index_or buses k no_bus).to ≢ Some (slice_index_or buses j no_bus).node

-- these many nodes' buses, in order
pub record AreOrderedBuses (nodes : ℕ) (buses : List Bus) : Type 0 where
  pub ordered : IsOrdered buses
  pub no_cycle : HasNoCycle buses
  pub buses_are : All (IsBusOf nodes) buses
  pub gains_most : All (λ (b : Bus). b.gain ≤ limits.most_gain) buses
  pub buses_most : length buses ≤ limits.most_buses

-- each clip has more channels than this number
abbrev pub HaveChannel : ℕ → List SceneClipData → Type 0
HaveChannel channel clips = All (λ (c : SceneClipData). channel < c.channels) clips

abbrev pub sum_at : List ℤ → ℕ → ℤ
sum_at sums n = slice_index_or sums n (pos 0)

-- each sum has grown by what the bus adds, where each input is the sum so far in 24 bits
abbrev pub ShareAdded : FrameState → ℕ → Bus → List ℤ → List ℤ → Type 0
ShareAdded m channel b old new = (n : ℕ) → n < length old → sum_at new n ≡ sum_at old n +ℤ share m channel (λ k. sat24 (sum_at old k)) n b

-- x is within count times the greatest magnitude of a scaled sample
pub record IsWithin (count : ℕ) (x : ℤ) : Type 0 where
  pub low : neg_ℤ (pos (count * 134217728)) ≤ℤ x
  pub high : x ≤ℤ pos (count * 134217728)

abbrev pub AreWithin : ℕ → List ℤ → Type 0
AreWithin count sums = (n : ℕ) → IsWithin count (sum_at sums n)

abbrev pub mark_at : List Bool → ℕ → Bool
mark_at marks n = slice_index_or marks n false

-- the bus's node is marked too where it is active and the bus leads to a marked one
abbrev pub IsMarked : PlanData → ℕ → Bus → List Bool → List Bool → Type 0
IsMarked p t b old new =
    (n : ℕ) → n < length old → mark_at new n ≡ (mark_at old n || (b.node == n && is_active t (node p b.node) && target_passes (mark_at old) b.to))

-- the cursor of node n after a frame: it moves where the node is marked, and stays elsewhere
abbrev pub cursor_after : List NodeState → List Bool → List ℕ → List ℕ → ℕ → ℕ
cursor_after nodes marks frames cursors n =
    if mark_at marks n then next_frame (slice_index frames n) (slice_index_or nodes n no_node).looped (slice_index cursors n) else slice_index cursors n
