use Rattle.std.proofs.Common.{◌≡◌, ◌∙◌, ◌++◌, ◌<◌, ap, arith, List, length, string_bytes}
use Rattle.std.specs.Prelude.{slice_index_or}
use Rattle.std.proofs.lemmas.Grind.{common_steps}
use Rattle.scene_model.specs.SceneData.{SceneData}
use Rattle.scene_model.specs.declared.node_state.NodeState.{NodeState}
use Rattle.mix_model.specs.Pulled.{no_node}
use Rattle.scene_view.specs.Wiring.{node_lines, node_name}
use Rattle.scene_view.proofs.Pieces.{node_more, name_at}
use Rattle.scene_view.proofs.picture.node_lines.Goals as goal

pub loop-number-init : goal.loop-number-init
unfolding node_lines
loop-number-init c = c.new-text.ensures.bytes

pub loop-number-preserved : goal.loop-number-preserved
loop-number-preserved c =
    let s = c.args.scene.now in
    let p = c.args.plan.now in
    let n = c.loop-number.number in
    let rows_are = c.as_slice-rows.ensures ∙ ap (λ (q : SceneData). q.nodes) c.scene.view_is in
    let inside : n < length c.as_slice-rows.result.now = omega (arith, ap length rows_are, ap length c.nodes-states.ensures.value, c.requires.nodes) in
    let name_is = name_at s c.as_slice-rows.result.now n c.index-rows-number.result c.as_str-name.result.now rows_are inside c.as_str-name.ensures in
    node_more s p c.args.frame n _ _ _ _ _ _ c.loop-number.invariant (c.in_ok-push_str.ensures.bytes ∙ ap (λ xs. string_bytes c.loop-number.text ++ xs) c.as_str.ensures.value) c.in_ok-line.ensures name_is
    (ap (λ (xs : List NodeState). slice_index_or xs n no_node) c.nodes-states.ensures.value)
    (c.requires.pulled n (omega (arith, ap length c.nodes-states.ensures.value)))
