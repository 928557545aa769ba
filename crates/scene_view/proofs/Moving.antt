-- A scene's plan before the edits of a frame, with the place of the next edit.
use Rattle.std.proofs.Common.{◌≡◌, ℕ, ◌+◌, ◌<◌, ◌≤◌, List, length, drop, sym, ◌∙◌, ap, subst, arith}
use Rattle.std.specs.Prelude.{fold}
use Rattle.scene_model.specs.declared.order.NumberedEdit.{NumberedEdit}
use Rattle.scene_model.specs.IsScene.{IsScene}
use Rattle.scene_model.specs.Limits as limits
use Rattle.scene_model.specs.Opening.{opening}
use Rattle.scene_model.specs.Order.{in_order}
use Rattle.scene_model.specs.PlanData.{PlanData}
use Rattle.scene_model.specs.Plans.{after}
use Rattle.scene_model.specs.SceneData.{SceneData}
use Rattle.scene_model.specs.Times.{plan_before, plan}
use Rattle.mix_model.specs.Due.{due, IsNext, AreInOrder, CanMakeAll}
use Rattle.mix_model.proofs.Frames.{edits_in_order, plan_due, plan_more}
use Rattle.mix_model.proofs.ScenePlans.{nodes_before}
use Rattle.mix_model.proofs.Starting.{plan_start, next_start, can_start}

pub record Stands (s : SceneData) (edits : List NumberedEdit) (time place : ℕ) (p : PlanData) : Type 0 where
  pub edits_are : edits ≡ in_order s.edits
  pub plan_is : p ≡ plan_before s time
  pub next : IsNext edits time place
  pub can : CanMakeAll p (drop place edits)

pub stands_first : (s : SceneData) (edits : List NumberedEdit) (p : PlanData) → IsScene s → edits ≡ in_order s.edits → p ≡ opening s → Stands s edits 0 0 p
stands_first s edits p is e opened = record {
  edits_are = e;
  plan_is = opened ∙ sym (plan_start s);
  next = next_start edits;
  can = subst (λ (q : PlanData). CanMakeAll q edits) (sym opened) (can_start s edits is e);
}

pub stands_next : (s : SceneData) (edits : List NumberedEdit) (time place next : ℕ) (old new : PlanData) → Stands s edits time place old → new ≡ fold after old (due edits time) → IsNext edits (time + 1) next → CanMakeAll new (drop next edits) → Stands s edits (time + 1) next new
stands_next s edits time place next old new before made then can = record {
  edits_are = before.edits_are;
  plan_is = plan_due s edits time old new before.edits_are before.plan_is made ∙ plan_more s time;
  next = then;
  can = can;
}

pub few_nodes : (s : SceneData) (edits : List NumberedEdit) (time place : ℕ) (p : PlanData) → IsScene s → Stands s edits time place p → length p.nodes ≤ limits.most_nodes
few_nodes s edits time place p is before =
    let count = ap (λ (q : PlanData). length q.nodes) before.plan_is ∙ nodes_before s time in
    let most = is.nodes_most in
    omega arith

pub stands_last : (s : SceneData) (edits : List NumberedEdit) (time place frame : ℕ) (p : PlanData) → Stands s edits time place p → time ≡ frame + 1 → p ≡ plan s frame
stands_last s edits time place frame p before last = before.plan_is ∙ ap (plan_before s) last ∙ sym (plan_more s frame)
