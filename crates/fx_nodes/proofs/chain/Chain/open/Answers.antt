-- One more stage.
use Rattle.std.proofs.Common.{◌≡◌, ◌<◌, ◌++◌, ◌∷◌, [], length, get_or, rules}
use Rattle.fx_nodes.specs.Stages.{effect_of}
use Rattle.fx_nodes.proofs.Chained.{effects_more, none_taken_more}
use Rattle.fx_nodes.proofs.chain.Chain.open.Goals as goal

pub loop-effect-preserved : goal.loop-effect-preserved
loop-effect-preserved c =
    let stages = c.loop-effect.stages.items in
    let stage = c.in_ok-stage.stage in
    let inv = c.loop-effect.invariant in
    let pushed : c.push.new.self.items ≡ stages ++ stage ∷ [] = search rules in
    let inside : c.loop-effect.effect-index < length c.args.effects.now = search rules in
    let is : effect_of stage ≡ get_or c.args.effects.now c.loop-effect.effect-index (effect_of stage) = search rules in
    rw pushed (record {
      effects = effects_more stages stage c.args.effects.now c.loop-effect.effect-index (effect_of stage) inside inv.effects is;
      empty = none_taken_more stages stage inv.empty c.in_ok-stage.ensures.empty;
    })
