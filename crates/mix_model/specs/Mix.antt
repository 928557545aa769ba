-- The mix of a whole scene, frame by frame.
use Rattle.std.specs.Prelude.{◌≡◌, ℕ, zero, suc, ◌+◌, ◌==◌, nat_lt, min, Bool, ℤ, List, map, fold, slice_get, if◌then◌else◌}
use Rattle.std.specs.List.{range_with_len}
use Rattle.std.specs.Option.{option_map_or}
use Rattle.scene_clips.specs.SceneClipData.{SceneClipData}
use Rattle.scene_clips.specs.ClipFrames.{clip_length}
use Rattle.scene_model.specs.declared.edit.Edit.{Edit}
use Rattle.scene_model.specs.declared.edit.Edit.TheVariants.{Attach, Detach, SetGain, Start, Stop, From, Until, Seek, Loop}
use Rattle.scene_model.specs.declared.node.Node.{Node}
use Rattle.scene_model.specs.declared.node.NodeKind.{NodeKind}
use Rattle.scene_model.specs.declared.node.NodeKind.TheVariants.{Sound, Group, Splitter}
use Rattle.scene_model.specs.PlanData.{PlanData}
use Rattle.scene_model.specs.SceneData.{SceneData}
use Rattle.scene_model.specs.Times.{edits_at, plan}
use Rattle.mix_model.specs.Pulled.{node, pulled}
use Rattle.mix_model.specs.Signals.{FrameState, frame}

-- the clips of the resources' files, at the scene's rate and channels
abbrev pub clips_of : SceneData → List (List ℕ) → List SceneClipData
clips_of s files = map (λ bytes. record { bytes = bytes; rate = s.rate; channels = s.channels }) files

-- the frames of a resource's clip; a resource that isn't there has none
abbrev pub clip_frames_at : List SceneClipData → ℕ → ℕ
clip_frames_at clips resource = option_map_or (λ (c : SceneClipData). clip_length c.bytes c.rate) (slice_get clips resource) 0

-- these are the numbers of frames of clips, in their order
abbrev pub AreFramesOf : List SceneClipData → List ℕ → Type 0
AreFramesOf clips frames = frames ≡ map (λ (c : SceneClipData). clip_length c.bytes c.rate) clips

-- the frames that a node plays: those of a sound's clip, and none of a group or a splitter
abbrev pub kind_frames : List SceneClipData → NodeKind → ℕ
kind_frames clips (Sound resource looped) = clip_frames_at clips resource
kind_frames clips Group = 0
kind_frames clips (Splitter outputs) = 0

abbrev pub node_frames : List SceneClipData → SceneData → ℕ → ℕ
node_frames clips s n = option_map_or (λ (x : Node). kind_frames clips x.kind) (slice_get s.nodes n) 0

-- The cursor of node n, which plays so many frames, after an edit: a seek of the node sets it to the place, or to the
-- clip's end where that comes first. (A group or a splitter plays none, so a seek of it, which is refused, leaves 0.)
abbrev pub cursor_after_edit : ℕ → ℕ → ℕ → Edit → ℕ
cursor_after_edit n frames cursor (Seek target place) = if target == n then min place frames else cursor
cursor_after_edit n frames cursor (Attach target out to) = cursor
cursor_after_edit n frames cursor (Detach target out) = cursor
cursor_after_edit n frames cursor (SetGain target out gain) = cursor
cursor_after_edit n frames cursor (Start target) = cursor
cursor_after_edit n frames cursor (Stop target) = cursor
cursor_after_edit n frames cursor (From target value) = cursor
cursor_after_edit n frames cursor (Until target value) = cursor
cursor_after_edit n frames cursor (Loop target on) = cursor

-- the cursor after a frame that was played: the next frame, and at the clip's end its first where the sound loops
abbrev pub next_frame : ℕ → Bool → ℕ → ℕ
next_frame frames looped cursor = if nat_lt (cursor + 1) frames then cursor + 1 else (if looped then 0 else frames)

-- the cursor of node n after frame t, in this plan: it moves where the node is pulled, and stays elsewhere
abbrev pub next_cursor : PlanData → ℕ → ℕ → ℕ → ℕ → ℕ
next_cursor p t n frames cursor = if pulled p t n then next_frame frames (node p n).looped cursor else cursor

-- a cursor before the edits of frame t: it starts at 0, and goes on frame by frame
unfoldable pub cursor_before : List SceneClipData → SceneData → ℕ → ℕ → ℕ
cursor_before clips s n zero = 0
cursor_before clips s n (suc t) =
    next_cursor (plan s t) t n (node_frames clips s n)
    (fold (cursor_after_edit n (node_frames clips s n)) (cursor_before clips s n t) (edits_at s.edits t))

-- and after them: the place that is played at frame t
abbrev pub cursor : List SceneClipData → SceneData → ℕ → ℕ → ℕ
cursor clips s n t = fold (cursor_after_edit n (node_frames clips s n)) (cursor_before clips s n t) (edits_at s.edits t)

-- what frame t of a scene depends on
abbrev pub frame_state : List SceneClipData → SceneData → ℕ → FrameState
frame_state clips s t = record { plan = plan s t; time = t; clips = clips; cursor = λ n. cursor clips s n t }

-- the frames from number `from` on, `count` of them: the endpoint's input in each of the scene's channels, in 24 bits
abbrev pub frames_from : List SceneClipData → SceneData → ℕ → ℕ → List (List ℤ)
frames_from clips s from count = map (λ t. frame (frame_state clips s t) s.channels) (range_with_len from count)

-- The mix of a scene: all its frames, where the files are those of its resources, in their order.
unfoldable pub mix : SceneData → List (List ℕ) → List (List ℤ)
mix s files = frames_from (clips_of s files) s 0 s.length
