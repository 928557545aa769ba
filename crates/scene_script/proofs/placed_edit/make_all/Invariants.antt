use Rattle.std.proofs.Common.{◌≡◌, drop, take, map}
use Rattle.std.specs.Prelude.{fold}
use Rattle.scene_model.specs.Opening.{unwired}
use Rattle.scene_model.specs.Plans.{after}
use Rattle.scene_script.specs.declared.placed_edit.PlacedEdit.{PlacedEdit}
use Rattle.scene_script.specs.Wiring.{all_done}
use Rattle.scene_script.proofs.placed_edit.make_all.Given as goal

abbrev pub invariant-loop-edit : goal.invariant-loop-edit
invariant-loop-edit l = record {
  made : l.plan ≡ fold after (unwired l.nodes) (map (λ (e : PlacedEdit). e.edit) (take l.edit-index l.edits));
  rest : all_done l.plan (drop l.edit-index l.edits) ≡ all_done (unwired l.nodes) l.edits;
}
