-- A scene while it is played, block by block.
use Rattle.std.specs.Prelude.{◌≡◌, ◌≢◌, ◌⊎◌, ℕ, ◌+◌, ◌-◌, ◌*◌, ◌/◌, ◌%◌, ◌<◌, ◌≤◌, ℤ, [], List, length, slice_index}
use Rattle.mix_fixed.specs.Kernels.{at as at_place}
use Rattle.scene_model.specs.declared.order.NumberedEdit.{NumberedEdit}
use Rattle.scene_model.specs.IsScene.{IsScene}
use Rattle.scene_model.specs.Order.{in_order}
use Rattle.scene_model.specs.SceneData.{SceneData}
use Rattle.scene_model.specs.Times.{edits_at, plan}
use Rattle.mix_model.specs.Due.{frame_at}
use Rattle.mix_model.specs.Mix.{frame_state, node_frames}
use Rattle.mix_model.specs.Moments.{Moment, IsBeforeEdits, IsAfterEdits}
use Rattle.mix_model.specs.Pulled.{endpoint}
use Rattle.mix_model.specs.Signals.{input}
use Rattle.engine.specs.declared.playback.Playback.{Playback}
use Rattle.engine.specs.Nodes.{IsPlayable}

abbrev pub moment_of : Playback → Moment
moment_of p = record { plan = p.stage; time = p.time; place = p.place; cursors = p.cursors }

-- the playback has the scene's edits in order, and its clips with their lengths
pub record IsOfScene (p : Playback) : Type 0 where
  pub scene_is : IsScene p.scene.value
  pub length_is : p.length ≡ p.scene.value.length
  pub edits_are : p.edits ≡ in_order p.scene.value.edits
  pub channels_are : p.channels ≡ p.scene.value.channels
  pub frames_are : (n : ℕ) → slice_index p.frames n ≡ node_frames p.clips.items p.scene.value n

-- it stands before the edits of its frame
pub record IsBefore (p : Playback) : Type 0 where
  pub of_scene : IsOfScene p
  pub time_most : p.time ≤ p.scene.value.length
  pub moment : IsBeforeEdits p.clips.items p.scene.value (moment_of p)
  pub playable : IsPlayable p

-- it stands after them
pub record IsAt (p : Playback) : Type 0 where
  pub of_scene : IsOfScene p
  pub time_most : p.time < p.scene.value.length
  pub moment : IsAfterEdits p.clips.items p.scene.value (moment_of p)
  pub playable : IsPlayable p

-- no edit falls between the two frames
abbrev pub NoEditsBetween : List NumberedEdit → ℕ → ℕ → Type 0
NoEditsBetween edits t until = (k : ℕ) → k < length edits → t < frame_at edits k → until ≤ frame_at edits k

-- So many frames are a block that begins at frame t: 512, or fewer where the frame after them is the first with an edit, or
-- the scene ends
pub record IsBlock (s : SceneData) (t count : ℕ) : Type 0 where
  pub some : 0 < count
  pub most : count ≤ 512
  pub within : t + count ≤ s.length
  pub quiet : (i : ℕ) → 0 < i → i < count → edits_at s.edits (t + i) ≡ []
  pub whole : (count ≡ 512) ⊎ (t + count ≡ s.length) ⊎ (edits_at s.edits (t + count) ≢ [])

-- A block of the frames from `start` on and before `end`, in which no edit falls but at its first, is rendered up to the playback's frame:
-- the samples of the frames before that are in their places, interleaved
pub record IsInBlock (p : Playback) (start end : ℕ) (samples : List ℤ) : Type 0 where
  pub from : start ≤ p.time
  pub until : p.time ≤ end
  pub most : end ≤ start + 512
  pub within : end ≤ p.scene.value.length
  pub quiet : NoEditsBetween (in_order p.scene.value.edits) start end
  pub room : (end - start) * p.channels ≤ length samples
  pub at : p.time < end → IsAt p
  pub before : p.time ≡ end → IsBefore p
  pub rendered : (j : ℕ) → j < (p.time - start) * p.channels → at_place samples j
      ≡ input (frame_state p.clips.items p.scene.value (start + j / p.channels)) (j % p.channels) (endpoint (plan p.scene.value (start + j / p.channels)))
