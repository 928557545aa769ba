use Rattle.std.proofs.Common.{◌∙◌, ap, pos, arith}
use Rattle.mix_fixed.proofs.Lanes.{casts, lanes_stored}
use Rattle.mix_fixed.proofs.kernels.add_lanes.Goals as goal

pub overflow_cast-samples : goal.overflow_cast-samples
overflow_cast-samples c = casts c.args.from c.args.x.now

pub returns : goal.returns
returns c =
    lanes_stored c.args.from c.args.g c.args.acc.now c.args.x.now c.from.result (c.from.ensures ∙ ap pos c.get.ensures.value) (omega (arith, c.get.ensures.limit, c.get.ensures.value))
    c.requires.sums_there c.requires.samples_there c.requires.samples c.requires.sums
