use Rattle.std.proofs.Common.{◌≡◌, All, length}
use Rattle.mix_fixed.specs.Sound.{Is24}
use Rattle.fx_nodes.specs.Samples.{MadeIn, level_rule}
use Rattle.fx_nodes.proofs.amplifier.amplify.Given as goal

abbrev pub invariant-loop-i : goal.invariant-loop-i
invariant-loop-i l = record {
  len : length l.samples ≡ length l.initial.samples;
  range : All Is24 l.samples;
  made : MadeIn (level_rule l.gain) l.from l.i l.initial.samples l.samples;
}
