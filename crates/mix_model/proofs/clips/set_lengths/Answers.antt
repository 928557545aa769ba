use Rattle.std.proofs.Common.{arith, rules, sym, ap, ◌∙◌, length}
use Rattle.scene_model.specs.declared.node.Node.{Node}
use Rattle.scene_model.specs.SceneData.{SceneData}
use Rattle.mix_model.specs.Mix.{kind_frames}
use Rattle.mix_model.proofs.Deepening.{zeros_at}
use Rattle.mix_model.proofs.Starting.{lengths_more, lengths_rest, lengths_all}
use Rattle.mix_model.proofs.clips.set_lengths.Goals as goal

pub loop-n-init : goal.loop-n-init
loop-n-init c = record {
  set = λ clips are k below. absurd (omega arith);
  rest = λ k past. zeros_at c.fill.new.self (length c.args.lengths.now) k (c.fill.ensures.after (λ y e. e));
}

pub loop-n-preserved : goal.loop-n-preserved
loop-n-preserved c =
    let s = c.args.scene.now in
    let nodes = c.as_slice-nodes.ensures ∙ ap (λ (q : SceneData). q.nodes) c.scene.view_is in
    record {
      set = λ clips are. lengths_more s clips c.as_slice-nodes.result.now c.loop-n.lengths c.loop-n.n c.kind_length.result c.index-nodes-n.result nodes c.loop-n-test.true (search rules) c.index-nodes-n.is (c.kind_length.ensures clips are ∙ ap (λ (x : Node). kind_frames clips x.kind) (sym c.index-nodes-n.is)) (c.loop-n.invariant.set clips are);
      rest = lengths_rest c.loop-n.lengths c.loop-n.n c.kind_length.result c.loop-n.invariant.rest;
    }

pub returns : goal.returns
returns c =
    let s = c.args.scene.now in
    let nodes = ap length (c.as_slice-nodes.ensures ∙ ap (λ (q : SceneData). q.nodes) c.scene.view_is) in
    λ clips are. lengths_all s clips c.loop-n.lengths c.loop-n.n (omega arith) (c.loop-n.invariant.set clips are) c.loop-n.invariant.rest
