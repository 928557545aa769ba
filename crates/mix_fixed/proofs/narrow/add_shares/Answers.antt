use Rattle.std.proofs.Common.{◌≡◌, ◌∙◌, ap, inr, arith}
use Rattle.mix_fixed.specs.Kernels.{at, IsWithin, most_narrow_sum}
use Rattle.mix_fixed.specs.Sound.{scale}
use Rattle.mix_fixed.proofs.Lanes.{none_mixed}
use Rattle.mix_fixed.proofs.Raised.{narrow_sum, one_more, sample_kept}
use Rattle.mix_fixed.proofs.narrow.add_shares.Goals as goal

pub loop-i-init : goal.loop-i-init
loop-i-init c = none_mixed c.args.gain c.args.acc.now c.args.x.now

pub loop-i-preserved : goal.loop-i-preserved
loop-i-preserved c =
    let i = c.loop-i.i in
    let x = c.args.x.now in
    let is : c.narrow_share.result ≡ scale (at x i) c.args.gain = c.narrow_share.ensures.scaled ∙ ap (λ y. scale y c.args.gain) (sample_kept (at x i) (c.requires.samples i (omega arith))) in
    let within : IsWithin most_narrow_sum (at c.loop-i.acc i) = rw (c.loop-i.invariant.outside i (inr (omega arith))) (c.requires.sums i (omega arith)) in
    one_more i c.args.gain c.args.acc.now x c.loop-i.acc _ (omega arith) (narrow_sum (at c.loop-i.acc i) c.narrow_share.result (scale (at x i) c.args.gain) within c.narrow_share.ensures.range is) c.loop-i.invariant
