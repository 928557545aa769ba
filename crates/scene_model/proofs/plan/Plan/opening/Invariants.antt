use Rattle.std.proofs.Common.{◌≡◌, take, length}
use Rattle.std.specs.Prelude.{fold}
use Rattle.scene_model.specs.Opening.{after_row, unwired}
use Rattle.scene_model.proofs.plan.Plan.opening.Given as goal

abbrev pub invariant-loop-row : goal.invariant-loop-row
invariant-loop-row l = record {
  applied : l.plan ≡ fold after_row (unwired l.scene.nodes) (take l.row-index l.row-items);
  same_nodes : length l.plan.nodes ≡ length l.scene.nodes;
}
