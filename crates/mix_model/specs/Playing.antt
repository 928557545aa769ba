-- A scene while it is played, frame by frame.
use Rattle.std.specs.Prelude.{◌≡◌, ℕ, ◌<◌, ◌≤◌, All, slice_index}
use Rattle.std.specs.List.Sorted.{IsPermutation}
use Rattle.scene_clips.specs.SceneClipData.{SceneClipData}
use Rattle.scene_model.specs.IsScene.{IsScene}
use Rattle.scene_model.specs.Order.{in_order}
use Rattle.scene_model.specs.SceneData.{SceneData}
use Rattle.mix_model.specs.declared.player.Player.{Player}
use Rattle.mix_model.specs.Mix.{node_frames}
use Rattle.mix_model.specs.Moments.{Moment, IsBeforeEdits, IsAfterEdits}
use Rattle.mix_model.specs.OrderedBuses.{IsOrdered}

-- the player has the scene's edits in order, and the lengths of its clips, which have the scene's channels
pub record IsPlayerOf (s : SceneData) (p : Player) : Type 0 where
  pub scene_is : IsScene s
  pub edits_are : p.edits ≡ in_order s.edits
  pub channels_are : All (λ (c : SceneClipData). c.channels ≡ s.channels) p.clips.items
  pub frames_are : (n : ℕ) → slice_index p.frames n ≡ node_frames p.clips.items s n

abbrev pub moment_of : Player → Moment
moment_of p = record { plan = p.plan; time = p.time; place = p.place; cursors = p.cursors }

-- it stands before the edits of its frame, with a topological order of the buses
pub record IsBefore (s : SceneData) (p : Player) : Type 0 where
  pub player : IsPlayerOf s p
  pub time_most : p.time ≤ s.length
  pub moment : IsBeforeEdits p.clips.items s (moment_of p)
  pub permutation : IsPermutation p.plan.buses p.ordered_buses.items
  pub ordered : IsOrdered p.ordered_buses.items

-- it stands after them
pub record IsAt (s : SceneData) (p : Player) : Type 0 where
  pub player : IsPlayerOf s p
  pub time_most : p.time < s.length
  pub moment : IsAfterEdits p.clips.items s (moment_of p)
  pub permutation : IsPermutation p.plan.buses p.ordered_buses.items
  pub ordered : IsOrdered p.ordered_buses.items
