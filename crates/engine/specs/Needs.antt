-- Pages that are needed and aren't shown yet.
use Rattle.std.specs.Prelude.{◌≡◌, ℕ, ◌+◌, ◌<◌, ◌≤◌, true, Bool, List, length, Some, slice_get, slice_index}
use Rattle.scene_clips.specs.ClipFrames.{clip_length}
use Rattle.scene_clips.specs.FilePages.{IsMadeOf}
use Rattle.scene_clips.specs.SceneClipData.{SceneClipData}
use Rattle.scene_model.specs.SceneData.{SceneData}
use Rattle.scene_model.specs.Times.{plan}
use Rattle.mix_model.specs.Mix.{cursor}
use Rattle.mix_model.specs.Pulled.{node, pulled}
use Rattle.mix_model.specs.Spans.{played}
use Rattle.resource_mgr.specs.Tapes.{WasNotShown}
use Rattle.resource_mgr.specs.declared.tape.Tape.{Tape}
use Rattle.engine.specs.declared.playback.Playback.{Playback}
use Rattle.engine.specs.Nodes.{IsSoundOf}

-- one of so many frames of a clip, from one on, is made of this page, which its tape wasn't shown
pub record IsMissingIn (c : SceneClipData) (from count : ℕ) (t t' : Tape) (page shown : ℕ) : Type 0 where
  pub frame : ℕ
  pub first : from ≤ frame
  pub last : frame < from + count
  pub made : IsMadeOf c.bytes c.rate frame page
  pub tape : WasNotShown t t' page shown

-- the same of a clip that is played for so many frames from a place on
pub record IsMissingAt (c : SceneClipData) (looped : Bool) (place count : ℕ) (t t' : Tape) (page shown : ℕ) : Type 0 where
  pub after : ℕ
  pub within : after < count
  pub inside : played (clip_length c.bytes c.rate) looped place after < clip_length c.bytes c.rate
  pub made : IsMadeOf c.bytes c.rate (played (clip_length c.bytes c.rate) looped place after) page
  pub tape : WasNotShown t t' page shown

-- the tape of a resource wasn't shown this page
abbrev pub WasNotShownOf : ℕ → List Tape → List Tape → ℕ → ℕ → Type 0
WasNotShownOf resource tapes tapes' page shown =
    (t t' : Tape) → slice_get tapes resource ≡ Some t → slice_get tapes' resource ≡ Some t' → WasNotShown t t' page shown

-- the clip of a resource is played for so many frames from a place on, and its tape wasn't shown a page that one of them is made of
pub record IsMissingOf (clips : List SceneClipData) (looped : Bool) (place count : ℕ) (tapes tapes' : List Tape) (resource page shown : ℕ) : Type 0 where
  pub clip : SceneClipData
  pub clip_is : slice_get clips resource ≡ Some clip
  pub after : ℕ
  pub within : after < count
  pub inside : played (clip_length clip.bytes clip.rate) looped place after < clip_length clip.bytes clip.rate
  pub made : IsMadeOf clip.bytes clip.rate (played (clip_length clip.bytes clip.rate) looped place after) page
  pub tape : WasNotShownOf resource tapes tapes' page shown

-- a sound of the resource is pulled at the frame of a playback, and plays so many frames, and its tape wasn't shown a page that one of them is made of
pub record IsNeeded (p : Playback) (tapes' : List Tape) (count resource page shown : ℕ) : Type 0 where
  pub sound : ℕ
  pub below : sound < length p.stage.nodes
  pub is_sound : IsSoundOf resource (node p.stage sound).kind
  pub is_pulled : pulled p.stage p.time sound ≡ true
  pub misses : IsMissingOf p.clips.items (node p.stage sound).looped (slice_index p.cursors sound) count p.tapes.items tapes' resource page shown

-- at one of the scene's frames from one on and before another, a sound of this resource is pulled, and its cursor stands before the clip's end, at
-- a frame that is made of this page
pub record ReadsPage (clips : List SceneClipData) (s : SceneData) (from until resource page : ℕ) : Type 0 where
  pub frame : ℕ
  pub first : from ≤ frame
  pub last : frame < until
  pub sound : ℕ
  pub is_sound : IsSoundOf resource (node (plan s frame) sound).kind
  pub is_pulled : pulled (plan s frame) frame sound ≡ true
  pub clip : SceneClipData
  pub clip_is : slice_get clips resource ≡ Some clip
  pub inside : cursor clips s sound frame < clip_length clip.bytes clip.rate
  pub made : IsMadeOf clip.bytes clip.rate (cursor clips s sound frame) page
