use Rattle.std.proofs.Common.{◌≡◌, ◌+◌, ◌-◌, ◌*◌, All, length}
use Rattle.mix_fixed.specs.Sound.{Is24}
use Rattle.fx_nodes.specs.Samples.{MadeIn, fade_rule}
use Rattle.fx_nodes.specs.Slopes.{IsMark}
use Rattle.fx_nodes.proofs.fader.Fader.slope.Given as goal

abbrev pub invariant-loop-t : goal.invariant-loop-t
invariant-loop-t l = record {
  len : length l.frames ≡ length l.initial.frames;
  range : All Is24 l.frames;
  made : MadeIn (fade_rule l.self.from l.self.to l.self.first l.self.last l.start) (2 * l.begin) (2 * l.t) l.initial.frames l.frames;
  mark : IsMark l.self.first l.self.last (l.self.to - l.self.from) (l.start + l.t - l.self.from) l.mark;
}
