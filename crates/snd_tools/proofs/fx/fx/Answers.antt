use Rattle.std.proofs.Common.{Ok, ◌≡◌, ◌∙◌, ap, sym, arith}
use Rattle.plain_data.proofs.Lists.{IfSome-at}
use Rattle.snd_io.proofs.FaultLemmas.{Rose-within}
use Rattle.snd_tools.specs.Outcome.{fx_rendered, fx_rendering}
use Rattle.scene_clips.specs.ClipFrames.{file_rate, rate_said}
use Rattle.snd_tools.specs.Reading.{◌>>=◌}
use Rattle.snd_tools.proofs.Outcomes.{ends-then}
use Rattle.snd_tools.proofs.RenderedOutcomes.{not-read, not-written, no-line, all-done}
use Rattle.snd_tools.proofs.fx.fx.Goals as goal

pub returns-in_err-clip-clause-told : goal.returns-in_err-clip-clause-told
returns-in_err-clip-clause-told g c = λ before told.
    let status = c.in_err-clip.field-0.0 in
    let effects = c.args.effects.now in
    not-read (fx_rendered before c.args.file.now effects c.args.count) c.args.out.now before _ _ told c.in_err-clip.ensures.files _ _ status
    (ends-then status _ (λ bytes. Ok (fx_rendering bytes effects c.args.count)) (IfSome-at _ (g.D.Depot.files c.args.depot.now) before told c.in_err-clip.ensures.told))
    c.in_err-clip.ensures.cause.cause c.from_residual.ensures.1

pub returns-in_err-summary-clause-told : goal.returns-in_err-summary-clause-told
returns-in_err-summary-clause-told g c = λ before told.
    let bytes = c.in_ok-clip.clip.bytes in
    let effects = c.args.effects.now in
    not-written (fx_rendered before c.args.file.now effects c.args.count) c.args.out.now before _ _ told c.in_ok-clip.ensures.files _ _ (fx_rendering bytes effects c.args.count) _
    (ap (λ r. r >>= λ bytes. Ok (fx_rendering bytes effects c.args.count)) (IfSome-at _ (g.D.Depot.files c.args.depot.now) before told c.in_ok-clip.ensures.told))
    c.in_err-summary.field-0.0 c.in_err-summary.ensures.after
    (λ failed. Rose-within _ _ _ _ c.in_ok-clip.ensures.cause.later (c.in_err-summary.ensures.cause.cause failed) (omega arith)) c.from_residual-in_err-summary.ensures.1

pub returns-in_err-fx_line-clause-told : goal.returns-in_err-fx_line-clause-told
returns-in_err-fx_line-clause-told g c = λ before told.
    let bytes = c.in_ok-clip.clip.bytes in
    let effects = c.args.effects.now in
    no-line (fx_rendered before c.args.file.now effects c.args.count) c.args.out.now before _ _ told c.in_ok-clip.ensures.files _ _ (fx_rendering bytes effects c.args.count) _
    (ap (λ r. r >>= λ bytes. Ok (fx_rendering bytes effects c.args.count)) (IfSome-at _ (g.D.Depot.files c.args.depot.now) before told c.in_ok-clip.ensures.told))
    c.in_ok-summary.ensures.after c.from_residual-in_err-fx_line.ensures.1

pub returns-clause-told : goal.returns-clause-told
returns-clause-told g c = λ before told.
    let bytes = c.in_ok-clip.clip.bytes in
    let effects = c.args.effects.now in
    let rate : c.wave.result.now.rate ≡ file_rate bytes = ap (λ w. w.rate) c.wave.ensures.value ∙ ap rate_said (sym c.wave.ensures.surveyed) in
    all-done (fx_rendered before c.args.file.now effects c.args.count) c.args.out.now before _ _ told c.in_ok-clip.ensures.files (Unit {0}) (Ok c.in_ok-fx_line.field-0)
    (fx_rendering bytes effects c.args.count) _
    (ap (λ r. r >>= λ bytes. Ok (fx_rendering bytes effects c.args.count)) (IfSome-at _ (g.D.Depot.files c.args.depot.now) before told c.in_ok-clip.ensures.told))
    c.in_ok-fx_line.field-0 c.in_ok-summary.ensures.after
    (c.in_ok-fx_line.ensures bytes effects rate c.in_ok-summary.ensures.size c.in_ok-summary.ensures.summary)
