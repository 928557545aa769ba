use Rattle.std.proofs.Common.{◌≡◌, ◌-◌, ◌∙◌, pos, ap, arith}
use Rattle.fx_nodes.proofs.FadeGains.{gain_between}
use Rattle.fx_nodes.proofs.Lines.{line_is}
use Rattle.fx_nodes.proofs.laws.a_fade_goes_by_equal_parts.Goals as goal

pub returns : goal.returns
returns c from to first last t begun on =
    let left : to - from - (t - from) ≡ to - t = omega (arith, begun, on) in
    ap pos (gain_between from to first last t begun on) ∙ rw left at (line_is first last (to - from) (t - from) (omega (arith, begun, on)))
