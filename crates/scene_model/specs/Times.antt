-- The plan of a scene at a frame.
use Rattle.std.specs.Prelude.{ℕ, zero, suc, ◌==◌, List, map, filter, fold}
use Rattle.scene_model.specs.declared.edit.Edit.{Edit}
use Rattle.scene_model.specs.declared.edit.EditRow.{EditRow}
use Rattle.scene_model.specs.Opening.{opening}
use Rattle.scene_model.specs.PlanData.{PlanData}
use Rattle.scene_model.specs.Plans.{after}
use Rattle.scene_model.specs.SceneData.{SceneData}

-- the edits of a frame, in the order of their rows
abbrev pub edits_at : List EditRow → ℕ → List Edit
edits_at rows t = map (λ (r : EditRow). r.edit) (filter (λ (r : EditRow). r.at == t) rows)

-- the opening plan after the edits of all frames before this one, frame by frame
unfoldable pub plan_before : SceneData → ℕ → PlanData
plan_before s zero = opening s
plan_before s (suc t) = fold after (plan_before s t) (edits_at s.edits t)

-- and after those of the frame itself
abbrev pub plan : SceneData → ℕ → PlanData
plan s t = fold after (plan_before s t) (edits_at s.edits t)
