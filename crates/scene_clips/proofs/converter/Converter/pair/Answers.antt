use Rattle.std.proofs.Common.{◌∙◌, ap, sym, rules, pos, FitsSigned}
use Rattle.std.specs.Prelude.{slice_index_or}
use Rattle.std.specs.Int.{w32}
use Rattle.std.proofs.lemmas.Int.{to_z-of_z}
use Rattle.rate_fit.specs.Channels.{in_channels}
use Rattle.scene_clips.proofs.Rates.{first_only}
use Rattle.scene_clips.proofs.converter.Converter.pair.Goals as goal

pub returns-then-weight-eq0-clause-left : goal.returns-then-weight-eq0-clause-left
returns-then-weight-eq0-clause-left c =
    let first = c.args.first.now in
    let fits : FitsSigned w32 (slice_index_or c.to_stereo-before.result 0 (pos 0)) = search rules in
    rw (to_z-of_z w32 (slice_index_or c.to_stereo-before.result 0 (pos 0)) fits)
    (ap (λ frame. slice_index_or frame 0 (pos 0)) c.to_stereo-before.ensures.converted
    ∙ ap (λ channels. slice_index_or (in_channels channels first) 0 (pos 0)) (sym c.requires.two)
    ∙ first_only c.args.self.now first c.args.second.now c.args.weight 0 c.requires.weighted c.if-weight-eq0.true)

pub returns-then-weight-eq0-clause-right : goal.returns-then-weight-eq0-clause-right
returns-then-weight-eq0-clause-right c =
    let first = c.args.first.now in
    let fits : FitsSigned w32 (slice_index_or c.to_stereo-before.result 1 (pos 0)) = search rules in
    rw (to_z-of_z w32 (slice_index_or c.to_stereo-before.result 1 (pos 0)) fits)
    (ap (λ frame. slice_index_or frame 1 (pos 0)) c.to_stereo-before.ensures.converted
    ∙ ap (λ channels. slice_index_or (in_channels channels first) 1 (pos 0)) (sym c.requires.two)
    ∙ first_only c.args.self.now first c.args.second.now c.args.weight 1 c.requires.weighted c.if-weight-eq0.true)
