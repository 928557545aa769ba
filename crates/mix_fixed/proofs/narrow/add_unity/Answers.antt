use Rattle.std.proofs.Common.{sym, inr, arith}
use Rattle.mix_fixed.specs.Kernels.{at, IsWithin, most_narrow_sum}
use Rattle.mix_fixed.specs.Sound.{Is24, scale, unity_gain}
use Rattle.mix_fixed.proofs.Lanes.{none_mixed}
use Rattle.mix_fixed.proofs.Raised.{narrow_sum, one_more, sample_scaled, scale_unity}
use Rattle.mix_fixed.proofs.narrow.add_unity.Goals as goal

pub loop-i-init : goal.loop-i-init
loop-i-init c = none_mixed unity_gain c.args.acc.now c.args.x.now

pub loop-i-preserved : goal.loop-i-preserved
loop-i-preserved c =
    let i = c.loop-i.i in
    let x = at c.args.x.now i in
    let is : Is24 x = c.requires.samples i (omega arith) in
    let within : IsWithin most_narrow_sum (at c.loop-i.acc i) = rw (c.loop-i.invariant.outside i (inr (omega arith))) (c.requires.sums i (omega arith)) in
    one_more i unity_gain c.args.acc.now c.args.x.now c.loop-i.acc _ (omega arith) (narrow_sum (at c.loop-i.acc i) x (scale x unity_gain) within (sample_scaled x is) (sym (scale_unity x))) c.loop-i.invariant
