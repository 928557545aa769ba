use Rattle.std.proofs.Common.{sym, subst, ◌*◌, ◌^◌, inr, arith}
use Rattle.mix_fixed.specs.Kernels.{IsWithin, MixedIn}
use Rattle.mix_fixed.proofs.Lanes.{none_mixed, then_more}
use Rattle.mix_fixed.proofs.Raised.{within_more}
use Rattle.mix_fixed.proofs.kernels.add_scaled.Goals as goal

pub loop-block-init : goal.loop-block-init
loop-block-init c = none_mixed c.args.g c.args.acc.now c.args.x.now

pub add_lanes-requires-clause-sums : goal.add_lanes-requires-clause-sums
add_lanes-requires-clause-sums c = λ j low high.
    subst (λ sum. IsWithin (2 ^ 62) sum) (sym (c.loop-block.invariant.outside j (inr (omega (arith, low))))) (c.requires.sums j (omega (arith, high)))

pub loop-block-preserved : goal.loop-block-preserved
loop-block-preserved c =
    subst (λ m. MixedIn 0 m c.args.g c.args.acc.now c.args.x.now c.add_lanes.new.acc) (omega arith)
    (then_more (c.loop-block.block * 8) 8 c.args.g c.args.acc.now c.args.x.now c.loop-block.acc c.add_lanes.new.acc c.loop-block.invariant c.add_lanes.ensures)

pub loop-i-preserved : goal.loop-i-preserved
loop-i-preserved c =
    then_more c.loop-i.i 1 c.args.g c.args.acc.now c.args.x.now c.loop-i.acc c.add_one.new.acc c.loop-i.invariant c.add_one.ensures

pub returns-clause-within : goal.returns-clause-within
returns-clause-within c = λ most within.
    within_more most c.args.g c.args.acc.now c.args.x.now c.loop-i.acc c.requires.lengths (omega arith) c.requires.samples
    (λ j below. c.loop-i.invariant.inside j (omega arith) (omega arith)) within
