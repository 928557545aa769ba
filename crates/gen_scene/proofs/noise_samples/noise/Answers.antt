use Rattle.std.proofs.Common.{rules, w32, ◌∙◌, ap, sym}
use Rattle.std.proofs.lemmas.Int.{to_z-of_z}
use Rattle.gen_scene.specs.Draws.{stepped, drawn}
use Rattle.gen_scene.proofs.DrawLemmas.{state-step, state-start}
use Rattle.gen_scene.specs.Sounds.{noise_sample, sample_of}
use Rattle.gen_scene.proofs.Filling.{filled_more}
use Rattle.gen_scene.proofs.noise_samples.noise.Goals as goal

pub loop-i-init : goal.loop-i-init
loop-i-init c = search (rules, sym (state-start c.args.draws.now))

pub loop-i-preserved : goal.loop-i-preserved
loop-i-preserved c =
    let filled = filled_more (noise_sample c.args.draws.now) c.loop-i.i c.loop-i.out c.noise_sample.result (search rules)
    (c.noise_sample.ensures.value ∙ ap (λ s. sample_of (drawn (stepped s))) c.loop-i.invariant.0) c.noise_sample.ensures.range
    c.loop-i.invariant.1 c.loop-i.invariant.2 in
    rw (to_z-of_z w32 c.noise_sample.result (search (rules, c.noise_sample.ensures.range))) (
      c.noise_sample.ensures.draws ∙ ap stepped c.loop-i.invariant.0 ∙ sym (state-step c.args.draws.now c.loop-i.i),
      filled.0,
      filled.1,
    )
