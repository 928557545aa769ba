use Rattle.std.proofs.Common.{◌≡◌, ◌*◌, subst, sym, w64, to_z, of_z, arith}
use Rattle.std.proofs.lemmas.Int.{ints}
use Rattle.mix_fixed.specs.Kernels.{at, SettledIn}
use Rattle.mix_fixed.specs.Sound.{Is24}
use Rattle.mix_fixed.proofs.Settled.{none_settled, one_sample, one_settled, sat24_range, then_settled}
use Rattle.mix_fixed.proofs.kernels.settle.Goals as goal

pub loop-block-init : goal.loop-block-init
loop-block-init c = none_settled c.args.acc.now c.args.out.now

pub loop-block-preserved : goal.loop-block-preserved
loop-block-preserved c =
    subst (λ m. SettledIn 0 m c.args.acc.now c.args.out.now c.settle_lanes.new.out) (omega arith)
    (then_settled (c.loop-block.block * 8) 8 c.args.acc.now c.args.out.now c.loop-block.out c.settle_lanes.new.out c.loop-block.invariant c.settle_lanes.ensures)

pub loop-j-preserved : goal.loop-j-preserved
loop-j-preserved c =
    let j = c.loop-j.j in
    let sum = at c.args.acc.now j in
    let kept : to_z w64 (of_z w64 sum) ≡ sum = omega (arith, ints) in
    then_settled j 1 c.args.acc.now c.args.out.now c.loop-j.out _ c.loop-j.invariant
    (one_settled j c.args.acc.now c.loop-j.out _ (omega arith) (one_sample sum c.sat24.result kept c.sat24.ensures.range c.sat24.ensures.nearest))

pub returns-clause-settled : goal.returns-clause-settled
returns-clause-settled c = λ j below. c.loop-j.invariant.inside j (omega arith) (omega arith)

pub returns-clause-samples : goal.returns-clause-samples
returns-clause-samples c = λ j below.
    subst Is24 (sym (c.loop-j.invariant.inside j (omega arith) (omega arith))) (sat24_range (at c.args.acc.now j))
