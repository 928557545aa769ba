-- A scene at a moment of its clock: its plan and its cursors before the edits of a frame, and after them.
use Rattle.std.specs.Prelude.{◌≡◌, ℕ, ◌+◌, List, drop, slice_index}
use Rattle.scene_clips.specs.SceneClipData.{SceneClipData}
use Rattle.scene_model.specs.Order.{in_order}
use Rattle.scene_model.specs.PlanData.{PlanData}
use Rattle.scene_model.specs.SceneData.{SceneData}
use Rattle.scene_model.specs.Times.{plan_before, plan}
use Rattle.mix_model.specs.Due.{IsNext, CanMakeAll}
use Rattle.mix_model.specs.Mix.{cursor_before, cursor}

-- the plan, the number of the frame, the place of the next edit among those in order, and the cursor of each node
pub record Moment : Type 0 where
  pub plan : PlanData
  pub time : ℕ
  pub place : ℕ
  pub cursors : List ℕ

-- as the scene has it before the edits of that frame
pub record IsBeforeEdits (clips : List SceneClipData) (s : SceneData) (m : Moment) : Type 0 where
  pub plan_is : m.plan ≡ plan_before s m.time
  pub cursors_are : (n : ℕ) → slice_index m.cursors n ≡ cursor_before clips s n m.time
  pub next : IsNext (in_order s.edits) m.time m.place
  pub can : CanMakeAll m.plan (drop m.place (in_order s.edits))

-- as it has it after them
pub record IsAfterEdits (clips : List SceneClipData) (s : SceneData) (m : Moment) : Type 0 where
  pub plan_is : m.plan ≡ plan s m.time
  pub cursors_are : (n : ℕ) → slice_index m.cursors n ≡ cursor clips s n m.time
  pub next : IsNext (in_order s.edits) (m.time + 1) m.place
  pub can : CanMakeAll m.plan (drop m.place (in_order s.edits))
