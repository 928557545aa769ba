-- A sample by at most 1.0 has 24 bits.
use Rattle.mix_fixed.specs.Sound.{Is24}
use Rattle.fx_nodes.proofs.Samples.{plain, scale_kept}
use Rattle.fx_nodes.proofs.gains.attenuated.Goals as goal

pub returns-clause-range : goal.returns-clause-range
returns-clause-range c =
    let kept : Is24 c.scaled.result =
    scale_kept c.args.x c.scaled.result c.args.gain (rw (plain c.args.x c.requires.sample) at c.scaled.ensures.scaled) c.requires.sample c.requires.gain in
    rw (plain c.scaled.result kept) kept
