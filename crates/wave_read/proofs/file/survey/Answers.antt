use Rattle.std.proofs.Common.{sym, ◌∙◌}
use Rattle.std.proofs.lemmas.Result.{err_from_is_err_and}
use Rattle.wave_read.proofs.Conclusions.{if_wave_lawful, not_opened, opened}
use Rattle.wave_read.proofs.file.survey.Goals as goal

pub returns-in_err-data_size-clause-exact : goal.returns-in_err-data_size-clause-exact
returns-in_err-data_size-clause-exact c =
    let p = err_from_is_err_and c.from_residual.result c.from_residual.ensures.1 in
    rw (p.1, p.2) (sym (not_opened c.args.bytes.now _ (sym c.opening.ensures.value ∙ c.in_err-data_size.was)))

pub returns-clause-exact : goal.returns-clause-exact
returns-clause-exact c =
    opened c.args.bytes.now c.in_ok-data_size.data_size c.walk.result (sym c.opening.ensures.value ∙ c.in_ok-data_size.was) c.walk.ensures

pub returns-clause-lawful : goal.returns-clause-lawful
returns-clause-lawful c =
    if_wave_lawful c.args.bytes.now c.walk.result
    (opened c.args.bytes.now c.in_ok-data_size.data_size c.walk.result (sym c.opening.ensures.value ∙ c.in_ok-data_size.was) c.walk.ensures)
