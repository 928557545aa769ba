use Rattle.std.proofs.Common.{◌≡◌, ◌+◌, ◌-◌, false, ◌∙◌, ap, subst, arith}
use Rattle.scene_model.specs.Order.{in_order}
use Rattle.engine.specs.declared.playback.Playback.{Playback}
use Rattle.engine.specs.Playing.{NoEditsBetween}
use Rattle.engine.specs.RendererData.{IsAtBlock}
use Rattle.engine.proofs.Rendered.{at_block, at_end}
use Rattle.engine.proofs.playback.Playback.step.Goals as goal

pub returns-then-self-clause-standing : goal.returns-then-self-clause-standing
returns-then-self-clause-standing c = λ samples room.
    at_end c.args.self.now samples c.requires (c.if-self.true ∙ c.requires.of_scene.length_is)

pub returns-clause-standing : goal.returns-clause-standing
returns-clause-standing c = λ samples room.
    let q = c.edit.new.self in
    let frames = c.block_end.result - q.time in
    let end : c.block_end.result ≡ q.time + frames = omega (arith, c.block_end.ensures.after) in
    subst (λ t. IsAtBlock q t frames false samples) (ap (λ (x : Playback). x.time) c.edit.ensures.same)
    (at_block q frames samples c.edit.ensures.at c.block_end.ensures.block
    (subst (NoEditsBetween (in_order q.scene.value.edits) q.time) end c.block_end.ensures.quiet) room)
