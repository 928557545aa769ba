use Rattle.std.proofs.Common.{◌≡◌, ◌*◌, All, length}
use Rattle.mix_fixed.specs.Sound.{Is24}
use Rattle.fx_nodes.specs.Samples.{MadeIn, pan_rule}
use Rattle.fx_nodes.proofs.panner.Panner.block.Given as goal

abbrev pub invariant-loop-t : goal.invariant-loop-t
invariant-loop-t l = record {
  len : length l.frames ≡ length l.initial.frames;
  range : All Is24 l.frames;
  made : MadeIn (pan_rule l.self.place) 0 (2 * l.t) l.initial.frames l.frames;
}
