use Rattle.std.proofs.Common.{sym, subst}
use Rattle.snd_io.specs.Runs.{SetsFile}
use Rattle.snd_io.proofs.WholeFiles.{passed-on, set-appended, set-finished}
use Rattle.snd_io.proofs.writing.write_file.Goals as goal

pub returns-in_err-into_result-2-clause-after : goal.returns-in_err-into_result-2-clause-after
returns-in_err-into_result-2-clause-after g c =
    subst (λ answer. SetsFile answer c.args.name.now c.args.bytes.now (g.D.Depot.files c.args.depot.now) (g.D.Depot.files c.append.new.self))
    (sym (passed-on c.from_residual-in_err-into_result-2.result _ _ c.from_residual-in_err-into_result-2.ensures.1 c.in_err-into_result-2.ensures))
    (set-appended c.create.result c.append.result c.args.name.now c.args.bytes.now _ _ _ _ _ c.in_ok-into_result.ensures c.create.ensures.after c.append.ensures.after)

pub returns-clause-after : goal.returns-clause-after
returns-clause-after g c =
    let appended = set-appended c.create.result c.append.result c.args.name.now c.args.bytes.now _ _ _ _ _ c.in_ok-into_result.ensures c.create.ensures.after c.append.ensures.after in
    subst (λ answer. SetsFile answer c.args.name.now c.args.bytes.now (g.D.Depot.files c.args.depot.now) (g.D.Depot.files c.finish.new.self))
    (sym c.into_result-3.ensures)
    (set-finished c.finish.result c.args.name.now c.args.bytes.now _ _ _ c.finish.ensures.answer c.finish.ensures.files
    (subst (λ answer. SetsFile answer c.args.name.now c.args.bytes.now (g.D.Depot.files c.args.depot.now) (g.D.Depot.files c.append.new.self)) (sym c.in_ok-into_result-2.ensures) appended))
