use Rattle.std.proofs.Common.{Ok, arith}
use Rattle.plain_data.proofs.Lists.{IfSome-at}
use Rattle.snd_io.proofs.FaultLemmas.{Rose-within}
use Rattle.snd_tools.specs.Outcome.{rendered}
use Rattle.snd_tools.specs.Prepared.{rendering_of}
use Rattle.snd_tools.proofs.RenderedOutcomes.{not-read, not-written, no-line, all-done}
use Rattle.snd_tools.proofs.render.render.Goals as goal

pub returns-in_err-scene-clause-told : goal.returns-in_err-scene-clause-told
returns-in_err-scene-clause-told g c = λ before told.
    not-read (rendered before c.args.scene.now) c.args.out.now before _ _ told c.in_err-scene.ensures.files _ _ c.in_err-scene.field-0.0
    (IfSome-at _ (g.D.Depot.files c.args.depot.now) before told c.in_err-scene.ensures.told) c.in_err-scene.ensures.cause.cause c.from_residual.ensures.1

pub returns-in_err-summary-clause-told : goal.returns-in_err-summary-clause-told
returns-in_err-summary-clause-told g c = λ before told.
    not-written (rendered before c.args.scene.now) c.args.out.now before _ _ told c.in_ok-scene.ensures.files _ _ (rendering_of c.in_ok-scene.field-0) _
    (IfSome-at _ (g.D.Depot.files c.args.depot.now) before told c.in_ok-scene.ensures.told) c.in_err-summary.field-0.0 c.in_err-summary.ensures.after
    (λ failed. Rose-within _ _ _ _ c.in_ok-scene.ensures.cause.later (c.in_err-summary.ensures.cause.cause failed) (omega arith)) c.from_residual-in_err-summary.ensures.1

pub returns-in_err-mix_line-clause-told : goal.returns-in_err-mix_line-clause-told
returns-in_err-mix_line-clause-told g c = λ before told.
    no-line (rendered before c.args.scene.now) c.args.out.now before _ _ told c.in_ok-scene.ensures.files _ _ (rendering_of c.in_ok-scene.field-0) _
    (IfSome-at _ (g.D.Depot.files c.args.depot.now) before told c.in_ok-scene.ensures.told) c.in_ok-summary.ensures.after c.from_residual-in_err-mix_line.ensures.1

pub returns-clause-told : goal.returns-clause-told
returns-clause-told g c = λ before told.
    all-done (rendered before c.args.scene.now) c.args.out.now before _ _ told c.in_ok-scene.ensures.files (Unit {0}) (Ok c.in_ok-mix_line.field-0) (rendering_of c.in_ok-scene.field-0) _
    (IfSome-at _ (g.D.Depot.files c.args.depot.now) before told c.in_ok-scene.ensures.told) c.in_ok-mix_line.field-0 c.in_ok-summary.ensures.after
    (c.in_ok-mix_line.ensures _ c.in_ok-summary.ensures.summary)
