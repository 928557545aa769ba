-- No plan of a scene has a cycle, nor any that edits lead to.
use Rattle.std.proofs.Common.{ℕ, zero, suc, List, [], ◌∷◌}
use Rattle.std.specs.Prelude.{fold}
use Rattle.scene_model.specs.declared.bus_row.BusRow.{BusRow}
use Rattle.scene_model.specs.declared.edit.Edit.{Edit}
use Rattle.scene_model.specs.Opening.{unwired, row_edits, after_row, opening}
use Rattle.scene_model.specs.PlanData.{PlanData}
use Rattle.scene_model.specs.Plans.{after}
use Rattle.scene_model.specs.Reach.{HasNoCycle}
use Rattle.scene_model.specs.SceneData.{SceneData}
use Rattle.scene_model.specs.Times.{edits_at, plan_before, plan}
use Rattle.scene_model.proofs.NoCycle.{no_cycle_run}
use Rattle.scene_model.proofs.PlanStays.{no_cycle_unwired}

no_cycle_rows : (rows : List BusRow) (p : PlanData) → HasNoCycle p.buses → HasNoCycle (fold after_row p rows).buses
no_cycle_rows [] p none = none
no_cycle_rows (b ∷ rows) p none = no_cycle_rows rows (after_row p b) (no_cycle_run p (row_edits b) none)

no_cycle_opening : (s : SceneData) → HasNoCycle (opening s).buses
no_cycle_opening s = no_cycle_rows s.buses (unwired s.nodes) (no_cycle_unwired s.nodes)

pub no_cycle_later : (s : SceneData) (edits : List Edit) → HasNoCycle (fold after (opening s) edits).buses
no_cycle_later s edits = no_cycle_run (opening s) edits (no_cycle_opening s)

no_cycle_before : (s : SceneData) (t : ℕ) → HasNoCycle (plan_before s t).buses
unfolding plan_before
no_cycle_before s zero = no_cycle_opening s
no_cycle_before s (suc t) = no_cycle_run (plan_before s t) (edits_at s.edits t) (no_cycle_before s t)

pub no_cycle_at : (s : SceneData) (t : ℕ) → HasNoCycle (plan s t).buses
no_cycle_at s t = no_cycle_run (plan_before s t) (edits_at s.edits t) (no_cycle_before s t)
