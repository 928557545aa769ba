use Rattle.std.proofs.Common.{◌≡◌, ◌+◌, ◌++◌, ◌∷◌, [], ◌≤◌, List, Option, length, sym, ◌∙◌, ap, subst}
use Rattle.std.specs.Prelude.{IfSome}
use Rattle.bus_list.specs.declared.pass.Pass.{Pass}
use Rattle.node_graph.specs.declared.feed.Feed.{Feed}
use Rattle.node_graph.specs.ListData.{ListData, IsInputOf, data_of}
use Rattle.node_graph.proofs.Gathered.{AreFirstInputs}
use Rattle.scene_model.specs.Limits as limits
use Rattle.scene_model.specs.PlanData.{PlanData}
use Rattle.live_graph.specs.InputEditors.{EditorData, editor_data, list_of, lists_of}
use Rattle.live_graph.specs.Passes.{ArePasses, IsPassFrom}
use Rattle.live_graph.proofs.Openings.{inputs_more, no_input, own_input, passes_more, same_data}
use Rattle.live_graph.proofs.opening.open_sides.Goals as goal
use Rattle.live_graph.proofs.opening.open_sides.Goals.{then-is_sound, else-is_sound}

-- what is pushed for a node: an editor, or none
record IsOwn (p : PlanData) (node : _) (editor : Option EditorData) (pass : Pass Feed) : Type 0 where
  input : IsInputOf p node (list_of editor)
  few : IfSome (list_of editor) (λ (list : ListData). length list.history ≤ limits.most_buses)
  pass_is : IfSome editor (IsPassFrom pass)

pub loop-node-preserved : goal.loop-node-preserved
loop-node-preserved c =
    let p : PlanData = record { nodes = c.nodes-nodes.result.now; buses = c.buses-buses.result.now } in
    let node = c.loop-node.node in
    let list = c.in_ok-open_list in
    let pass = c.split-editor.result.1 in
    let own : IsOwn p node c.if-is_sound.push pass = elim c.if-is_sound.branch [
      | then-is_sound w ↦
          subst (λ (e : Option EditorData). IsOwn p node e pass) (sym (w.push-is ∙ w.none.ensures))
          (record { input = no_input p node (sym c.is_sound.ensures ∙ w.if-is_sound.true); few = tt; pass_is = tt })
      | else-is_sound w ↦
          let same = c.split-editor.ensures in
          let list_is : (editor_data c.split-editor.result.0).list ≡ data_of list.field-0 = same_data same.list.1 same.history in
          subst (λ (e : Option EditorData). IsOwn p node e pass) (sym (w.push-is ∙ w.new.ensures))
          (record {
            input = own_input p node (data_of list.field-0) (editor_data c.split-editor.result.0).list (sym c.is_sound.ensures ∙ w.if-is_sound.false) list.ensures.list list_is;
            few = subst (λ (d : ListData). length d.history ≤ limits.most_buses) (sym list_is) list.ensures.edits;
            pass_is = record { shut = same.pass.1; list_is = same.list.0; start_is = same.pass.2 ∙ ap length (sym same.history) };
          })
    ] in
    let inputs : c.push-in-loop-node.new.self.items ≡ c.loop-node.inputs.items ++ c.if-is_sound.push ∷ [] = c.in_ok-push-2.ensures.items in
    let passes : c.push.new.self.items ≡ c.loop-node.passes.items ++ pass ∷ [] = c.in_ok-push.ensures.items in
    record {
      inputs_are = subst (λ (editors : List (Option EditorData)). AreFirstInputs p (node + 1) (lists_of editors)) (sym inputs)
          (inputs_more p node c.loop-node.inputs.items c.if-is_sound.push c.loop-node.invariant.inputs_are own.input own.few);
      passes_are = subst (λ (editors : List (Option EditorData)). ArePasses editors c.push.new.self.items) (sym inputs)
          (subst (ArePasses (c.loop-node.inputs.items ++ c.if-is_sound.push ∷ [])) (sym passes) (passes_more c.loop-node.inputs.items c.loop-node.passes.items c.if-is_sound.push pass c.loop-node.invariant.passes_are own.pass_is));
    }
