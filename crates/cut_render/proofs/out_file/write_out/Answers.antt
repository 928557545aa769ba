use Rattle.std.proofs.Common.{sym, subst}
use Rattle.std.proofs.lemmas.Result.{err_from_is_err_and}
use Rattle.engine.specs.RunAnswers.{fault_answer}
use Rattle.engine.proofs.Appending.{stopped_closed}
use Rattle.snd_io.specs.Answers.{Creates}
use Rattle.snd_io.proofs.RunLemmas.{set-run}
use Rattle.cut_render.specs.Cut.{cut_wav}
use Rattle.cut_render.proofs.out_file.write_out.Goals as goal

pub returns-in_err-append_wav-clause-after : goal.returns-in_err-append_wav-clause-after
returns-in_err-append_wav-clause-after g c =
    let whole = cut_wav c.args.pieces.now.reader.clip.bytes c.args.segments.now in
    let created = subst (λ made. Creates made c.args.out.now (g.D.Depot.files c.args.depot.now) (g.D.Depot.files c.create.new.self) (g.D.Depot.writing c.create.new.self)) (sym c.in_ok-done.ensures) c.create.ensures.after in
    let fault = c.in_err-append_wav.field-0.0 in
    let p = err_from_is_err_and c.from_residual-in_err-append_wav.result c.from_residual-in_err-append_wav.ensures.1 in
    rw (p.1, p.2) (set-run (fault_answer fault) c.args.out.now whole _ _ _ _ created.0 (c.in_err-append_wav.ensures.after c.args.out.now created.1))

pub returns-in_err-append_wav-clause-closed : goal.returns-in_err-append_wav-clause-closed
returns-in_err-append_wav-clause-closed g c =
    let whole = cut_wav c.args.pieces.now.reader.clip.bytes c.args.segments.now in
    let created = subst (λ made. Creates made c.args.out.now (g.D.Depot.files c.args.depot.now) (g.D.Depot.files c.create.new.self) (g.D.Depot.writing c.create.new.self)) (sym c.in_ok-done.ensures) c.create.ensures.after in
    stopped_closed c.in_err-append_wav.field-0.0 c.args.out.now whole _ _ _ (c.in_err-append_wav.ensures.after c.args.out.now created.1)
