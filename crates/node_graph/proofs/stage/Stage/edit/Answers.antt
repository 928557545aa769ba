use Rattle.std.proofs.Common.{◌≡◌, true, List, Bool, length, Option, sym, ◌∙◌, ap, subst}
use Rattle.std.specs.Prelude.{if◌then◌else◌}
use Rattle.std.proofs.lemmas.Bool.{and_parts}
use Rattle.scene_model.specs.IsPlan.{can_apply, names_nodes, may_seek}
use Rattle.scene_model.specs.PlanData.{PlanData}
use Rattle.scene_model.specs.Plans.{reply, made, is_done}
use Rattle.scene_model.proofs.PlanStays.{written_back}
use Rattle.node_graph.specs.ListData.{ListData, AreInputsOf}
use Rattle.node_graph.specs.ListChanges.{list_change, changed, CanChange}
use Rattle.node_graph.specs.declared.list_changes.ListChange.{ListChange}
use Rattle.node_graph.proofs.Changes.{can_change}
use Rattle.node_graph.proofs.ListsKept.{inputs_made}
use Rattle.node_graph.proofs.stage.Stage.edit.Goals as goal

same_parts : {p q : PlanData} {inputs new : List (Option ListData)} → q ≡ p → new ≡ inputs → AreInputsOf p inputs → AreInputsOf q new
same_parts {p} {q} {inputs} {new} plan lists w =
    subst (λ (r : PlanData). AreInputsOf r new) (sym plan) (subst (λ (ins : List (Option ListData)). AreInputsOf p ins) (sym lists) w)

pub change-requires : goal.change-requires
change-requires c =
    let p = c.self.inside.plan in
    let e = c.args.edit.now in
    let can : can_apply p e ≡ true = subst (λ (q : PlanData). can_apply q e ≡ true) (sym c.self.view_is) c.requires in
    let named = (and_parts (names_nodes (length p.nodes) e) (may_seek p.nodes e) can).0 in
    let done : is_done (reply p e) ≡ true = ap is_done (sym c.apply-reply.ensures.reply) ∙ sym c.is_done.ensures ∙ c.if-is_done.true in
    let change : c.list_change-list_change.result ≡ list_change p.buses e = c.list_change-list_change.ensures ∙ ap (λ bs. list_change bs e) c.buses.ensures.value in
    subst (λ (inputs : List (Option ListData)). CanChange inputs c.list_change-list_change.result) (sym c.as_mut_slice.ensures.value)
    (subst (λ (l : ListChange). CanChange c.self.inside.inputs.items l) (sym change) (can_change p e c.self.inside.inputs.items c.buses.ensures.plan named done c.self.invariant))

pub invariant_of-self : goal.invariant_of-self
invariant_of-self c =
    let p = c.self.inside.plan in
    let e = c.args.edit.now in
    let old = c.self.inside.inputs.items in
    let new = c.change.new.inputs in
    let can : can_apply p e ≡ true = subst (λ (q : PlanData). can_apply q e ≡ true) (sym c.self.view_is) c.requires in
    let named = (and_parts (names_nodes (length p.nodes) e) (may_seek p.nodes e) can).0 in
    let done : is_done (reply p e) ≡ true = ap is_done (sym c.apply-reply.ensures.reply) ∙ sym c.is_done.ensures ∙ c.if-is_done.true in
    let change : c.list_change-list_change.result ≡ list_change p.buses e = c.list_change-list_change.ensures ∙ ap (λ bs. list_change bs e) c.buses.ensures.value in
    let plan : c.apply-reply.new.plan ≡ made p e = c.apply-reply.ensures.after ∙ ap (λ (d : Bool). if d then made p e else p) done in
    let inputs : new ≡ changed old (list_change p.buses e) = c.change.ensures ∙ ap (λ ins. changed ins c.list_change-list_change.result) c.as_mut_slice.ensures.value ∙ ap (changed old) change in
    let back = written_back old new c.self.inside.inputs.len c.self.inside.inputs.ok.0 (c.change.auto.inputs ∙ ap length c.as_mut_slice.ensures.value) in
    same_parts plan (back ∙ inputs) (inputs_made p e old c.buses.ensures.plan named done c.self.invariant)
