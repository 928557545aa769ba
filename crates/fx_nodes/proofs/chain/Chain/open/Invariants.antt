use Rattle.std.proofs.Common.{◌≡◌, [], take}
use Rattle.fx_nodes.specs.Stages.{HaveTaken, effects_of}
use Rattle.fx_nodes.proofs.chain.Chain.open.Given as goal

abbrev pub invariant-loop-effect : goal.invariant-loop-effect
invariant-loop-effect l = record {
  effects : effects_of l.stages.items ≡ take l.effect-index l.effects;
  empty : HaveTaken l.stages.items [];
}
