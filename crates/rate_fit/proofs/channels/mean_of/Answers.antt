-- Each turn adds a sample, and the sum of all gives the mean.
use Rattle.std.proofs.Common.{arith, rules, pos, get_or, ◌∙◌, ◌≡◌, ◌<◌, ◌≤◌, length, ap, sym, FitsSigned, to_z, w32, w64}
use Rattle.std.specs.Int.{int_div_euclid}
use Rattle.std.proofs.lemmas.Int.{to_z-of_z}
use Rattle.rate_fit.proofs.Means.{sum_more, mean_is}
use Rattle.rate_fit.proofs.Sums.{mean_range}
use Rattle.rate_fit.proofs.channels.mean_of.Goals as goal

pub loop-k-preserved : goal.loop-k-preserved
loop-k-preserved c =
    let below : c.loop-k.k < length c.args.samples.now = omega (arith, c.loop-k-test.true, c.requires.count) in
    let short : length c.args.samples.now ≤ 8 = omega (arith, c.requires.most, c.requires.count) in
    let fits : FitsSigned w32 (get_or c.args.samples.now c.loop-k.k (pos 0)) = search rules in
    let is = c.from-sum.ensures ∙ to_z-of_z w32 _ fits in
    sum_more c.args.samples.now c.loop-k.k _ c.from-sum.result below short (rw is fits) is c.loop-k.invariant

pub returns-clause-mean : goal.returns-clause-mean
returns-clause-mean c =
    let some : 1 ≤ length c.args.samples.now = omega (arith, c.requires.some, c.requires.count) in
    let short : length c.args.samples.now ≤ 8 = omega (arith, c.requires.most, c.requires.count) in
    let end : c.loop-k.k ≡ length c.args.samples.now = omega (arith, c.loop-k-test.false, c.loop-k.auto.k-end, c.requires.count) in
    mean_is _ _ _ _ some short end c.loop-k.invariant (c.floor_quotient.ensures ∙ ap (λ n. int_div_euclid (to_z w64 c.loop-k.sum-bits) (pos n)) c.requires.count)

pub returns-clause-range : goal.returns-clause-range
returns-clause-range c =
    let some : 1 ≤ length c.args.samples.now = omega (arith, c.requires.some, c.requires.count) in
    let short : length c.args.samples.now ≤ 8 = omega (arith, c.requires.most, c.requires.count) in
    let end : c.loop-k.k ≡ length c.args.samples.now = omega (arith, c.loop-k-test.false, c.loop-k.auto.k-end, c.requires.count) in
    λ all. rw (mean_is _ _ _ _ some short end c.loop-k.invariant (c.floor_quotient.ensures ∙ ap (λ n. int_div_euclid (to_z w64 c.loop-k.sum-bits) (pos n)) c.requires.count)) (
    mean_range c.args.samples.now some all
    )
