use Rattle.std.proofs.Common.{◌∙◌, ap, pos, slice_index_or, FitsSigned, arith, rules}
use Rattle.std.specs.Int.{w16, w32}
use Rattle.std.proofs.lemmas.Int.{to_z-of_z}
use Rattle.clip_decode.specs.Widened.{widened}
use Rattle.clip_decode.proofs.ContainerRuns.{appended_none, appended_more}
use Rattle.clip_decode.proofs.widened.widen_into.Goals as goal

pub loop-i-init : goal.loop-i-init
loop-i-init c = appended_none c.args.at (λ k. widened (slice_index_or c.args.samples.now k (pos 0))) c.args.out.now

pub loop-i-preserved : goal.loop-i-preserved
loop-i-preserved c =
    let fits : FitsSigned w32 c.widened.result = search rules in
    let given : FitsSigned w16 (slice_index_or c.args.samples.now c.loop-i.i (pos 0)) = search rules in
    rw (to_z-of_z w32 c.widened.result fits)
    (appended_more c.args.at c.loop-i.i (λ k. widened (slice_index_or c.args.samples.now k (pos 0))) c.widened.result
    c.args.out.now c.loop-i.out c.loop-i.invariant
    (c.widened.ensures.exact ∙ ap widened (to_z-of_z w16 (slice_index_or c.args.samples.now c.loop-i.i (pos 0)) given)) c.widened.ensures.range (omega arith))
