use Rattle.std.proofs.Common.{sym, subst}
use Rattle.plain_data.proofs.Lists.{IfSome-at}
use Rattle.snd_io.specs.Runs.{RunOfAppends}
use Rattle.snd_io.proofs.RunLemmas.{run-append}
use Rattle.engine.proofs.open_file.append.Goals as goal

pub returns-clause-after : goal.returns-clause-after
returns-clause-after g c = λ name is.
    subst (λ answer. RunOfAppends answer name c.args.bytes.now (g.D.Depot.files c.args.depot.now) (g.D.Depot.files c.append.new.self) (g.D.Depot.writing c.append.new.self)) (sym c.done.ensures)
    (run-append c.append.result name c.args.bytes.now _ _ _ (IfSome-at _ (g.D.Depot.writing c.args.depot.now) name is c.append.ensures.after))
