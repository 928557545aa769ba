use Rattle.std.proofs.Common.{[], length, sym, ◌∙◌, ap, subst, arith}
use Rattle.scene_model.specs.IsPlan.{IsPlan, AreTimesInRange}
use Rattle.scene_model.specs.IsScene.{IsScene}
use Rattle.scene_model.specs.PlanData.{PlanData}
use Rattle.mix_model.specs.Board.{board}
use Rattle.live_board.specs.Rule.{opener}
use Rattle.live_graph.specs.Dials.{most_words}
use Rattle.live_graph.proofs.BlankParts.{few_dials, opening_times, opens_in_range}
use Rattle.live_graph.proofs.blank.Blank.new.Goals as goal

pub open-requires : goal.open-requires
open-requires c =
    let s = c.in_ok-scene.scene in
    let p = c.in_ok-plan.plan in
    let scene : IsScene s = subst IsScene c.scene.view_is c.scene.invariant in
    let plan : IsPlan p = subst IsPlan c.plan.view_is c.plan.invariant in (
      few_dials p c.in_ok-board_words.field-0.items plan c.in_ok-board_words.ensures,
      omega arith,
      opens_in_range s p c.in_ok-board_words.field-0.items c.in_ok-largest_words.field-0.items scene plan c.in_ok-plan.ensures c.in_ok-board_words.ensures c.in_ok-largest_words.ensures,
    )

pub invariant_of-result : goal.invariant_of-result
invariant_of-result c =
    let s = c.in_ok-scene.scene in
    let p = c.in_ok-plan.plan in
    let scene : IsScene s = subst IsScene c.scene.view_is c.scene.invariant in
    let e = c.in_ok-board.ensures in
    let is = c.in_ok-plan.ensures in
    record {
      scene_is = scene;
      stage_is = record {
        plan_is = subst IsPlan c.plan.view_is c.plan.invariant;
        inputs_are = c.in_ok-inputs.ensures.inputs;
        times_are = subst AreTimesInRange (sym is) (opening_times s scene);
        locks = ap (λ me. me.0.locks) e.1;
        counted = ap (λ me. me.0.lock.stored) e.1;
        changes_are = sym (ap (λ me. length me.0.lock.history) e.1);
      };
      plan_is = is;
      table_is = e.0;
      seat_is = e.1 ∙ ap (λ k. (opener k, [])) (sym e.2);
      dials_are = ap (λ k. k.dials.items) e.2 ∙ c.in_ok-board_words.ensures ∙ ap board is;
      most_is = ap (λ k. k.most.items) e.2 ∙ c.in_ok-largest_words.ensures ∙ ap (λ (q : PlanData). most_words (length q.nodes) (length q.buses)) is;
      hands_are = ap (λ k. k.hands) e.2;
      lists_few = c.in_ok-inputs.ensures.few;
      passes_are = c.in_ok-inputs.ensures.passes;
    }
