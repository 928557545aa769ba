-- The samples of nodes over a span of frames, interleaved: place j is channel j % channels of frame j / channels.
use Rattle.std.specs.Prelude.{◌≡◌, ℕ, ◌+◌, ◌*◌, ◌/◌, ◌%◌, ◌<◌, true, ℤ, List, Contains, drop, filter, length, map, slice_index_or, Some, ◌+ℤ◌}
use Rattle.std.specs.List.Sorted.{IsPermutation}
use Rattle.mix_fixed.specs.Kernels.{at}
use Rattle.scene_model.specs.declared.bus.Bus.{Bus}
use Rattle.scene_model.specs.declared.node_state.NodeState.{NodeState}
use Rattle.mix_model.specs.OrderedBuses.{no_bus}
use Rattle.mix_model.specs.Pulled.{no_node, node, is_active}
use Rattle.mix_model.specs.Signals.{FrameState, is_attached_to, output, share, total, input}
use Rattle.mix_model.specs.Spans.{state_on}

-- the most frames of a span
abbrev pub most_span_frames : ℕ
most_span_frames = 512

-- the places of a node's samples: as many as a span of two channels has
abbrev pub node_places : ℕ
node_places = 1024

-- a span: what its first frame depends on, how many frames each node plays, and the scene's channels
pub record Span : Type 0 where
  pub first : FrameState
  pub frames : ℕ → ℕ
  pub channels : ℕ

-- what the frame of a place depends on
abbrev pub state_at : Span → ℕ → FrameState
state_at s j = state_on s.frames s.first (j / s.channels)

-- the input of a node at a place, its output, and what a bus adds to it
abbrev pub input_at : Span → ℕ → ℕ → ℤ
input_at s n j = input (state_at s j) (j % s.channels) n

abbrev pub output_at : Span → ℕ → ℕ → ℤ
output_at s n j = output (state_at s j) (j % s.channels) (input (state_at s j) (j % s.channels)) n

abbrev pub share_at : Span → ℕ → Bus → ℕ → ℤ
share_at s n b j = share (state_at s j) (j % s.channels) (input (state_at s j) (j % s.channels)) n b

-- these are the node's outputs, at so many places
abbrev pub AreOutputs : Span → ℕ → ℕ → List ℤ → Type 0
AreOutputs s count n xs = (j : ℕ) → j < count → at xs j ≡ output_at s n j

-- these are its inputs
abbrev pub AreInputs : Span → ℕ → ℕ → List ℤ → Type 0
AreInputs s count n xs = (j : ℕ) → j < count → at xs j ≡ input_at s n j

-- these are the sums of what these buses add to it
abbrev pub AreSums : Span → ℕ → ℕ → List Bus → List ℤ → Type 0
AreSums s count n feeds sums = (j : ℕ) → j < count → at sums j ≡ total (λ b. share_at s n b j) feeds

-- each sum has grown by what the bus adds to node n
abbrev pub AreAdded : Span → ℕ → Bus → List ℤ → List ℤ → Type 0
AreAdded s n b old new = (j : ℕ) → j < length old → at new j ≡ at old j +ℤ share_at s n b j

-- at the frames of so many places each node is active where it is at the first
abbrev pub IsSteadyAt : Span → ℕ → Type 0
IsSteadyAt s count = (j n : ℕ) → j < count → is_active (s.first.time + j / s.channels) (node s.first.plan n) ≡ is_active s.first.time (node s.first.plan n)

-- where the samples of a node are kept
abbrev pub kept_at : List ℤ → ℕ → List ℤ
kept_at kept n = drop (n * node_places) kept

-- the bus of that number, and those of these numbers
abbrev pub bus_at : List Bus → ℕ → Bus
bus_at buses k = slice_index_or buses k no_bus

abbrev pub buses_at : List Bus → List ℕ → List Bus
buses_at buses numbers = map (bus_at buses) numbers

-- these are the buses that are attached to a node, in any order
abbrev pub AreFeeds : ℕ → List Bus → List Bus → Type 0
AreFeeds n buses feeds = IsPermutation (filter (λ (b : Bus). is_attached_to n b.to) buses) feeds

-- the bus is attached to node n, and the outputs of its own node are kept, if that is active
pub record IsFedBy (s : Span) (n time count : ℕ) (nodes : List NodeState) (b : Bus) (kept : List ℤ) : Type 0 where
  pub time_is : s.first.time ≡ time
  pub nodes_are : s.first.plan.nodes ≡ nodes
  pub steady : IsSteadyAt s count
  pub attached : b.to ≡ Some n
  pub outputs : is_active time (slice_index_or nodes b.node no_node) ≡ true → AreOutputs s count b.node (kept_at kept b.node)

-- these buses are attached to node n, and the outputs of those of their nodes that are active are kept
pub record IsFed (s : Span) (n time count : ℕ) (nodes : List NodeState) (feeds : List Bus) (kept : List ℤ) : Type 0 where
  pub time_is : s.first.time ≡ time
  pub nodes_are : s.first.plan.nodes ≡ nodes
  pub steady : IsSteadyAt s count
  pub attached : (k : ℕ) → k < length feeds → (slice_index_or feeds k no_bus).to ≡ Some n
  pub outputs : (k : ℕ) → k < length feeds → is_active time (slice_index_or nodes (slice_index_or feeds k no_bus).node no_node) ≡ true
      → AreOutputs s count (slice_index_or feeds k no_bus).node (kept_at kept (slice_index_or feeds k no_bus).node)

-- the outputs of the nodes that feed node n are kept, of those that are active
abbrev pub FeedsKept : Span → ℕ → ℕ → List ℤ → Type 0
FeedsKept s count n kept =
    (b : Bus) → Contains s.first.plan.buses b → b.to ≡ Some n → is_active s.first.time (node s.first.plan b.node) ≡ true → AreOutputs s count b.node (kept_at kept b.node)
