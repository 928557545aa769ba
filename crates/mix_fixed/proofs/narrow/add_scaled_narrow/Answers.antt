use Rattle.std.proofs.Common.{◌≡◌, subst, arith}
use Rattle.mix_fixed.specs.Kernels.{IsMixed}
use Rattle.mix_fixed.specs.Sound.{unity_gain}
use Rattle.mix_fixed.proofs.Raised.{within_more}
use Rattle.mix_fixed.proofs.narrow.add_scaled_narrow.Goals as goal

pub returns-then-gain-eq-UNITY_GAIN-clause-within : goal.returns-then-gain-eq-UNITY_GAIN-clause-within
returns-then-gain-eq-UNITY_GAIN-clause-within c =
    let unity : unity_gain ≡ c.args.g = omega (arith, c.get-gain.ensures.value, c.if-gain-eq-UNITY_GAIN.true) in
    let mixed : IsMixed c.args.g c.args.acc.now c.args.x.now c.add_unity.new.acc = subst (λ g. IsMixed g c.args.acc.now c.args.x.now c.add_unity.new.acc) unity c.add_unity.ensures in
    λ most within. within_more most c.args.g c.args.acc.now c.args.x.now c.add_unity.new.acc c.requires.lengths (omega arith) c.requires.samples mixed within

pub returns-else-gain-eq-UNITY_GAIN-clause-within : goal.returns-else-gain-eq-UNITY_GAIN-clause-within
returns-else-gain-eq-UNITY_GAIN-clause-within c =
    let mixed : IsMixed c.args.g c.args.acc.now c.args.x.now c.add_shares.new.acc = subst (λ g. IsMixed g c.args.acc.now c.args.x.now c.add_shares.new.acc) c.get-gain.ensures.value c.add_shares.ensures in
    λ most within. within_more most c.args.g c.args.acc.now c.args.x.now c.add_shares.new.acc c.requires.lengths (omega arith) c.requires.samples mixed within
