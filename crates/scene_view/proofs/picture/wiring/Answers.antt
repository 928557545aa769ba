use Rattle.std.proofs.Common.{◌∙◌, ◌+◌, ap, length}
use Rattle.scene_model.specs.PlanData.{PlanData}
use Rattle.mix_model.proofs.Frames.{plan_more}
use Rattle.mix_model.proofs.ScenePlans.{nodes_before}
use Rattle.scene_view.proofs.picture.wiring.Goals as goal

pub picture_of-requires-clause-nodes : goal.picture_of-requires-clause-nodes
picture_of-requires-clause-nodes c =
    let s = c.args.scene.now in
    let t = c.args.frame in
    ap (λ (p : PlanData). length p.nodes) (c.in_ok-plan.ensures ∙ plan_more s t) ∙ nodes_before s (t + 1)
