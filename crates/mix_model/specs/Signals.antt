-- The inputs and outputs of nodes at a frame, in one channel.
use Rattle.std.specs.Prelude.{ℕ, suc, Bool, false, ◌&&◌, ◌==◌, nat_lt, ℤ, pos, ◌+ℤ◌, List, [], ◌∷◌, length, map, slice_get, Option, None, Some, if◌then◌else◌}
use Rattle.std.specs.List.{range_with_len}
use Rattle.std.specs.Option.{option_map_or}
use Rattle.mix_fixed.specs.Sound.{sat24, scale}
use Rattle.scene_clips.specs.SceneClipData.{SceneClipData}
use Rattle.scene_clips.specs.ClipFrames.{clip_length, clip_sample}
use Rattle.scene_model.specs.declared.bus.Bus.{Bus}
use Rattle.scene_model.specs.declared.node.NodeKind.{NodeKind}
use Rattle.scene_model.specs.declared.node.NodeKind.TheVariants.{Sound, Group, Splitter}
use Rattle.scene_model.specs.PlanData.{PlanData}
use Rattle.mix_model.specs.Pulled.{node, endpoint, is_active}
use Rattle.mix_model.specs.Iteration.{iterate}

-- all that a frame depends on: the plan, the number of the frame, the clips of the resources, and the cursor of each sound
pub record FrameState : Type 0 where
  pub plan : PlanData
  pub time : ℕ
  pub clips : List SceneClipData
  pub cursor : ℕ → ℕ

-- a clip's sample of a channel at a place, and 0 where the place is at the clip's end
abbrev pub sample_at : SceneClipData → ℕ → ℕ → ℤ
sample_at c place channel =
    if nat_lt place (clip_length c.bytes c.rate) then clip_sample c.bytes c.rate c.channels place channel else pos 0

-- the same by the number of the resource
abbrev pub clip_sample_at : List SceneClipData → ℕ → ℕ → ℕ → ℤ
clip_sample_at clips resource place channel = option_map_or (λ (c : SceneClipData). sample_at c place channel) (slice_get clips resource) (pos 0)

-- the output of a node of this kind: of a sound its clip's sample at the cursor, of a group or a splitter its input
abbrev pub kind_output : List SceneClipData → ℕ → ℕ → ℤ → NodeKind → ℤ
kind_output clips channel cursor input (Sound resource looped) = clip_sample_at clips resource cursor channel
kind_output clips channel cursor input Group = input
kind_output clips channel cursor input (Splitter outputs) = input

-- the output of a node, where the inputs are these
abbrev pub output : FrameState → ℕ → (ℕ → ℤ) → ℕ → ℤ
output m channel inputs n = kind_output m.clips channel (m.cursor n) (inputs n) (node m.plan n).kind

-- whether the bus is attached to this node
abbrev pub is_attached_to : ℕ → Option ℕ → Bool
is_attached_to n None = false
is_attached_to n (Some to) = to == n

-- whether the bus adds to the input of node n: it is attached there, and its own node is active
abbrev pub feeds : FrameState → ℕ → Bus → Bool
feeds m n b = is_attached_to n b.to && is_active m.time (node m.plan b.node)

-- what the bus adds to the input of node n: the output of its own node by its gain, or nothing
abbrev pub share : FrameState → ℕ → (ℕ → ℤ) → ℕ → Bus → ℤ
share m channel inputs n b = if feeds m n b then scale (output m channel inputs b.node) b.gain else pos 0

-- the sum of a number for each element of a list
abbrev pub total : {X : Type 0} → (X → ℤ) → List X → ℤ
total f [] = pos 0
total f (x ∷ xs) = f x +ℤ total f xs

-- The rule of inputs: the sum of what all buses add, brought back to 24 bits by saturation, once.
abbrev pub input_by : FrameState → ℕ → (ℕ → ℤ) → ℕ → ℤ
input_by m channel inputs n = sat24 (total (share m channel inputs n) m.plan.buses)

-- The input of each node. A plan has no cycle, so one iteration more than there are buses is enough: a law says that these
-- values solve the rule's equations, and that no others do.
unfoldable pub input : FrameState → ℕ → ℕ → ℤ
input m channel = iterate (input_by m channel) (pos 0) (suc (length m.plan.buses))

-- the endpoint's input in each channel
abbrev pub frame : FrameState → ℕ → List ℤ
frame m channels = map (λ channel. input m channel (endpoint m.plan)) (range_with_len 0 channels)
