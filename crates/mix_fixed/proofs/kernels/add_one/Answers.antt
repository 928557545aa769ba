use Rattle.mix_fixed.specs.Kernels.{at}
use Rattle.mix_fixed.proofs.Lanes.{one_stored, one_value, share_value}
use Rattle.mix_fixed.proofs.kernels.add_one.Goals as goal

pub returns : goal.returns
returns c =
    let i = c.args.i in
    let share = share_value (at c.args.x.now i) c.scale.result c.from.result c.args.g c.requires.sample c.scale.ensures.range c.scale.ensures.scaled c.from.ensures in
    one_stored i c.args.g c.args.acc.now c.args.x.now _ c.requires.sum_there
    (one_value (at c.args.acc.now i) (at c.args.x.now i) c.from.result c.args.g c.requires.sum share.1 share.0)
