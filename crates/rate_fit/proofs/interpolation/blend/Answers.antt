-- The quotient is the blend of the two samples, and has 24 bits.
use Rattle.std.proofs.Common.{arith, rules, ◌∙◌, FitsSigned, w32}
use Rattle.std.proofs.lemmas.Int.{to_z-of_z}
use Rattle.rate_fit.proofs.Blends.{Quotient, quotient_is, quotient_range, narrowed, fits_narrow}
use Rattle.rate_fit.proofs.interpolation.blend.Goals as goal

quotient : (c : goal.After-floor_quotient) → Quotient c.weighted.result c.weighted-2.result c.floor_quotient.result c.args.weight c.args.output_rate
quotient c = record {
  below = c.requires.weighted;
  rate = omega (arith, c.ranges.output_rate.fits);
  first = c.weighted.ensures.range;
  second = c.weighted-2.ensures.range;
  value = c.floor_quotient.ensures;
}

pub overflow_cast-result : goal.overflow_cast-result
overflow_cast-result c = fits_narrow _ (quotient_range _ _ _ _ _ (quotient c))

pub returns-clause-range : goal.returns-clause-range
returns-clause-range c =
    let is = quotient_range _ _ _ _ _ (quotient c) in
    rw (narrowed _ is) is

pub returns-clause-between : goal.returns-clause-between
returns-clause-between c =
    let is = quotient_range _ _ _ _ _ (quotient c) in
    let fits_a : FitsSigned w32 c.args.a = search rules in
    let fits_b : FitsSigned w32 c.args.b = search rules in
    let value = quotient_is _ _ _ _ _ (quotient c) in
    narrowed _ is ∙ (rw (c.weighted.ensures.product, c.weighted-2.ensures.product, to_z-of_z w32 c.args.a fits_a, to_z-of_z w32 c.args.b fits_b) at value)
