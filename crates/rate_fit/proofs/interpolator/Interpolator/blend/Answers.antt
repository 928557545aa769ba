-- The quotient, brought back from offset binary, is the blend of the two samples.
use Rattle.std.proofs.Common.{rules, ◌∙◌, FitsSigned, w32}
use Rattle.std.proofs.lemmas.Int.{to_z-of_z}
use Rattle.rate_fit.proofs.OffsetBinary.{offset_blend}
use Rattle.rate_fit.proofs.interpolator.Interpolator.blend.Goals as goal

pub returns-clause-between : goal.returns-clause-between
returns-clause-between c =
    let fits_a : FitsSigned w32 c.args.a = search rules in
    let fits_b : FitsSigned w32 c.args.b = search rules in
    let fits : FitsSigned w32 c.from_offset_binary.result = search rules in
    rw (← c.self.view_is) (
    to_z-of_z w32 _ fits ∙ offset_blend c.args.a c.args.b c.from_offset_binary.result c.to_offset_binary.result c.to_offset_binary-2.result c.quotient.result
    c.args.weight c.self.inside.output_rate (rw (← c.self.view_is) at c.requires.weighted)
    (rw (to_z-of_z w32 c.args.a fits_a) at c.to_offset_binary.ensures.value)
    (rw (to_z-of_z w32 c.args.b fits_b) at c.to_offset_binary-2.ensures.value)
    c.from_offset_binary.ensures.value
    (rw (c.from.ensures, c.from-2.ensures) at c.quotient.ensures.quotient)
    )
