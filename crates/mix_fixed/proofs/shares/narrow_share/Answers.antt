use Rattle.std.proofs.Common.{◌≡◌, ◌∙◌, arith, pos, ◌+ℤ◌, ◌^◌, w32, to_z, of_z}
use Rattle.std.proofs.lemmas.Int.{ints}
use Rattle.mix_fixed.proofs.Rounding.{scale_range}
use Rattle.mix_fixed.proofs.Raised.{share_is}
use Rattle.mix_fixed.proofs.shares.narrow_share.Goals as goal

pub returns-clause-scaled : goal.returns-clause-scaled
returns-clause-scaled c =
    let y = c.lowered.result in
    let raised : pos c.raised.result ≡ c.args.x +ℤ pos (2 ^ 23) = omega (arith, ints, c.raised.ensures.value, c.requires.sample.low, c.requires.sample.high) in
    let kept : to_z w32 (of_z w32 y) ≡ y = omega (arith, ints, c.lowered.ensures, c.upper_half.ensures.range, c.requires.gain) in
    kept ∙ share_is c.args.x y c.raised.result c.upper_half.result c.args.gain raised c.upper_half.ensures.value c.lowered.ensures

pub returns-clause-range : goal.returns-clause-range
returns-clause-range c =
    let y = c.lowered.result in
    let raised : pos c.raised.result ≡ c.args.x +ℤ pos (2 ^ 23) = omega (arith, ints, c.raised.ensures.value, c.requires.sample.low, c.requires.sample.high) in
    let kept : to_z w32 (of_z w32 y) ≡ y = omega (arith, ints, c.lowered.ensures, c.upper_half.ensures.range, c.requires.gain) in
    rw kept (scale_range c.args.x y c.args.gain (share_is c.args.x y c.raised.result c.upper_half.result c.args.gain raised c.upper_half.ensures.value c.lowered.ensures) c.requires.sample c.requires.gain)
