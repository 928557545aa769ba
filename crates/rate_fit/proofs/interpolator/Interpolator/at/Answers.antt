use Rattle.std.proofs.Common.{◌≡◌, ◌∙◌}
use Rattle.rate_fit.proofs.Places.{first_inside}
use Rattle.rate_fit.proofs.interpolator.Interpolator.at.Goals as goal

pub returns-then-place-from-clause-inside : goal.returns-then-place-from-clause-inside
returns-then-place-from-clause-inside c =
    let rate : c.self.inside.output_rate ≡ c.args.fit.now.output_rate = c.self.view_is ∙ c.requires.rate in
    rw (c.early_point.ensures.point, c.from.ensures, c.input_rate.ensures.rate, rate)
    (first_inside c.args.fit.now c.args.n c.input_rate.ensures.limits c.requires.frame)
