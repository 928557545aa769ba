use Rattle.std.proofs.Common.{◌≡◌, true, List, length, Option, sym, ◌∙◌, ap, subst}
use Rattle.std.specs.Prelude.{IfSome}
use Rattle.std.proofs.lemmas.Bool.{and_parts}
use Rattle.scene_model.specs.IsPlan.{names_nodes, may_seek}
use Rattle.scene_model.specs.Plans.{reply, is_done}
use Rattle.scene_model.specs.PlanData.{PlanData}
use Rattle.scene_model.proofs.PlanStays.{written_back}
use Rattle.node_graph.specs.ListChanges.{list_change, CanChange}
use Rattle.node_graph.specs.declared.list_changes.ListChange.{ListChange}
use Rattle.node_graph.proofs.Changes.{can_change}
use Rattle.live_graph.specs.InputEditors.{EditorData, editors_changed, lists_of}
use Rattle.live_graph.specs.Stages.{IsDialOf}
use Rattle.live_graph.proofs.StageEdits.{dial_is, edited, stage_edited}
use Rattle.live_graph.proofs.stage.LiveStage.edit.Goals as goal

pub change-requires-clause-can : goal.change-requires-clause-can
change-requires-clause-can g c =
    let s = c.args.self.now in
    let e = c.args.edit.now in
    let named = (and_parts (names_nodes (length s.plan.nodes) e) (may_seek s.plan.nodes e) c.requires.edit.0).0 in
    let done : is_done (reply s.plan e) ≡ true = ap is_done (sym c.apply-reply.ensures.reply) ∙ sym c.is_done.ensures ∙ c.if-is_done.true in
    let change : c.list_change-list_change.result ≡ list_change s.plan.buses e = c.list_change-list_change.ensures ∙ ap (λ bs. list_change bs e) c.buses.ensures.value in
    subst (λ (inputs : List (Option EditorData)). CanChange (lists_of inputs) c.list_change-list_change.result) (sym c.as_mut_slice.ensures.value)
    (subst (λ (l : ListChange). CanChange (lists_of s.inputs.items) l) (sym change) (can_change s.plan e (lists_of s.inputs.items) c.buses.ensures.plan named done c.requires.stage.inputs_are))

pub store-requires-clause-dial : goal.store-requires-clause-dial
store-requires-clause-dial g c =
    let s = c.args.self.now in
    let e = c.args.edit.now in
    let parts = and_parts (names_nodes (length s.plan.nodes) e) (may_seek s.plan.nodes e) c.requires.edit.0 in
    let done : is_done (reply s.plan e) ≡ true = ap is_done (sym c.apply-reply.ensures.reply) ∙ sym c.is_done.ensures ∙ c.if-is_done.true in
    subst (λ (q : PlanData). IfSome c.dial_of-dial.result (λ place. IsDialOf c.args.board.now q place)) (sym c.apply-reply.ensures.after)
    (dial_is c.args.board.now s e c.dial_of-dial.result c.requires.stage c.requires.board
    (record { plan = c.buses.ensures.plan; names = parts.0; may = parts.1; edit = c.requires.edit.1; done = done }) c.dial_of-dial.ensures)

pub returns-then-is_done-clause-edited : goal.returns-then-is_done-clause-edited
returns-then-is_done-clause-edited g c =
    let s = c.args.self.now in
    let e = c.args.edit.now in
    let parts = and_parts (names_nodes (length s.plan.nodes) e) (may_seek s.plan.nodes e) c.requires.edit.0 in
    let done : is_done (reply s.plan e) ≡ true = ap is_done (sym c.apply-reply.ensures.reply) ∙ sym c.is_done.ensures ∙ c.if-is_done.true in
    let change : c.list_change-list_change.result ≡ list_change s.plan.buses e = c.list_change-list_change.ensures ∙ ap (λ bs. list_change bs e) c.buses.ensures.value in
    let new = c.change.new.inputs in
    let back = written_back s.inputs.items new s.inputs.len s.inputs.ok.0 (c.change.auto.inputs ∙ ap length c.as_mut_slice.ensures.value) in
    let inputs : new ≡ editors_changed s.inputs.items (list_change s.plan.buses e) = c.change.ensures ∙ ap (λ ins. editors_changed ins c.list_change-list_change.result) c.as_mut_slice.ensures.value ∙ ap (editors_changed s.inputs.items) change in
    edited s e c.store.new.self c.apply-reply.new.plan c.dial_of-dial.result
    (record { plan = c.buses.ensures.plan; names = parts.0; may = parts.1; edit = c.requires.edit.1; done = done })
    c.apply-reply.ensures.after c.store.ensures.plan.0 (ap (λ v. v.items) c.store.ensures.plan.1 ∙ back ∙ inputs) c.store.ensures.table c.dial_of-dial.ensures c.store.ensures.stored

pub returns-then-is_done-clause-stage : goal.returns-then-is_done-clause-stage
returns-then-is_done-clause-stage g c =
    let s = c.args.self.now in
    let e = c.args.edit.now in
    let parts = and_parts (names_nodes (length s.plan.nodes) e) (may_seek s.plan.nodes e) c.requires.edit.0 in
    let done : is_done (reply s.plan e) ≡ true = ap is_done (sym c.apply-reply.ensures.reply) ∙ sym c.is_done.ensures ∙ c.if-is_done.true in
    stage_edited s e c.store.new.self c.requires.stage
    (record { plan = c.buses.ensures.plan; names = parts.0; may = parts.1; edit = c.requires.edit.1; done = done })
    c.requires.room.1 (returns-then-is_done-clause-edited g c) c.store.ensures.changes
