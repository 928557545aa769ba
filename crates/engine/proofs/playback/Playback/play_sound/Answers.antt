use Rattle.std.proofs.Common.{◌*◌, List, map, sym, ◌∙◌, ap, subst}
use Rattle.std.specs.Prelude.{IfSome, slice_get, slice_index, slice_index_or}
use Rattle.scene_clips.specs.SceneClipData.{SceneClipData}
use Rattle.scene_model.specs.declared.node_state.NodeState.{NodeState}
use Rattle.scene_model.specs.PlanData.{PlanData}
use Rattle.mix_model.specs.Pulled.{no_node, node}
use Rattle.resource_mgr.specs.Tapes.{files_of}
use Rattle.engine.specs.Sounds.{ArePlayed}
use Rattle.engine.specs.Span.{kept_at}
use Rattle.engine.proofs.NodesKept.{few_places}
use Rattle.engine.proofs.SoundsHeard.{resource_heard}
use Rattle.engine.proofs.playback.Playback.play_sound.Goals as goal

pub play_resource-requires-clause-alike : goal.play_resource-requires-clause-alike
play_resource-requires-clause-alike c =
    ap files_of c.as_mut_slice-tapes.ensures.value ∙ c.requires.playable.tapes_are ∙ sym (ap (map (λ (x : SceneClipData). x.bytes)) c.as_mut_slice-clips.ensures.value)

pub returns-clause-outputs : goal.returns-clause-outputs
returns-clause-outputs c = λ s span.
    let p = c.args.self.now in
    let value = c.as_mut_slice-clips.ensures.value in
    let samples = kept_at c.play_resource.new.room.kept.items c.args.n in
    let did = c.in_ok-play_resource.ensures in
    let nodes = c.nodes.ensures.value ∙ ap (λ (q : PlanData). q.nodes) c.plan.ensures in
    let played = subst (λ (ns : List NodeState). IfSome (slice_get c.as_mut_slice-clips.result.now c.args.resource)
    (λ (x : SceneClipData). ArePlayed x (slice_index_or ns c.args.n no_node).looped (slice_index p.cursors c.args.n) (c.args.count * x.channels) samples)) nodes did.played in
    resource_heard s p c.args.n c.args.resource c.args.count samples c.requires.playable c.requires.node c.requires.sound span c.requires.pulled
    (subst (λ (cs : List SceneClipData). IfSome (slice_get cs c.args.resource) (λ (x : SceneClipData). ArePlayed x (node p.stage c.args.n).looped (slice_index p.cursors c.args.n) (c.args.count * x.channels) samples)) value played)
    (few_places c.args.count p.channels c.requires.few c.requires.playable.channels_most) (λ none. did.silent (ap (λ (cs : List SceneClipData). slice_get cs c.args.resource) value ∙ none))
