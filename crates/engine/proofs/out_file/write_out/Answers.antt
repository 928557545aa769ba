use Rattle.std.proofs.Common.{sym, subst}
use Rattle.std.proofs.lemmas.Result.{err_from_is_err_and}
use Rattle.snd_io.specs.Answers.{Creates}
use Rattle.snd_io.proofs.RunLemmas.{set-run}
use Rattle.mix_model.specs.Mix.{clips_of, frames_from}
use Rattle.mix_model.specs.Output.{wav}
use Rattle.resource_mgr.specs.Tapes.{files_of}
use Rattle.engine.specs.RunAnswers.{fault_answer}
use Rattle.engine.proofs.Appending.{stopped_closed}
use Rattle.engine.proofs.out_file.write_out.Goals as goal

pub returns-in_err-summary-clause-after : goal.returns-in_err-summary-clause-after
returns-in_err-summary-clause-after g c =
    let s = c.args.scene.now in
    let whole = wav s (frames_from (clips_of s (files_of c.args.renderer.now.tapes)) s 0 s.length) in
    let created = subst (λ made. Creates made c.args.out.now (g.D.Depot.files c.args.depot.now) (g.D.Depot.files c.create.new.self) (g.D.Depot.writing c.create.new.self)) (sym c.in_ok-done.ensures) c.create.ensures.after in
    let fault = c.in_err-summary.field-0.0 in
    let p = err_from_is_err_and c.from_residual-in_err-summary.result c.from_residual-in_err-summary.ensures.1 in
    rw (p.1, p.2) (set-run (fault_answer fault) c.args.out.now whole _ _ _ _ created.0 (c.in_err-summary.ensures.after c.args.out.now created.1))

pub returns-in_err-summary-clause-closed : goal.returns-in_err-summary-clause-closed
returns-in_err-summary-clause-closed g c =
    let s = c.args.scene.now in
    let whole = wav s (frames_from (clips_of s (files_of c.args.renderer.now.tapes)) s 0 s.length) in
    let created = subst (λ made. Creates made c.args.out.now (g.D.Depot.files c.args.depot.now) (g.D.Depot.files c.create.new.self) (g.D.Depot.writing c.create.new.self)) (sym c.in_ok-done.ensures) c.create.ensures.after in
    stopped_closed c.in_err-summary.field-0.0 c.args.out.now whole _ _ _ (c.in_err-summary.ensures.after c.args.out.now created.1)
