use Rattle.std.proofs.Common.{◌∙◌, ap, sym, refl, FitsSigned, arith, rules}
use Rattle.std.specs.Int.{w16, w32}
use Rattle.std.proofs.lemmas.Int.{to_z-of_z}
use Rattle.g711.specs.ALaw.{alaw}
use Rattle.clip_decode.specs.G711.{alaw_value}
use Rattle.clip_decode.specs.Widened.{widened}
use Rattle.clip_decode.proofs.ContainerRuns.{decoded_more, first_byte}
use Rattle.clip_decode.proofs.companded.alaw_into.Goals as goal

pub loop-i-preserved : goal.loop-i-preserved
loop-i-preserved c =
    let fits : FitsSigned w32 c.widened.result = search rules in
    let given : FitsSigned w16 c.alaw.result = search rules in
    rw (to_z-of_z w32 c.widened.result fits)
    (decoded_more alaw_value 1 c.args.codes.now c.loop-i.i c.loop-i.i 1 c.widened.result c.loop-i.out
    c.loop-i.invariant (omega arith) refl
    (c.widened.ensures.exact ∙ ap widened (to_z-of_z w16 c.alaw.result given ∙ c.alaw.ensures ∙ ap alaw (sym (first_byte c.args.codes.now c.loop-i.i))))
    c.widened.ensures.range (omega arith))
