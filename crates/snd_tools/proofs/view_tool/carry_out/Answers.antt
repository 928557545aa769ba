use Rattle.std.proofs.Common.{refl, sym, subst}
use Rattle.snd_status.specs.declared.status.Status.TheVariants.{Usage}
use Rattle.snd_tools.specs.Outcome.{commanded, IsRefused}
use Rattle.snd_tools.proofs.view_tool.carry_out.Goals as goal

pub returns-in-Ok-clause-told : goal.returns-in-Ok-clause-told
returns-in-Ok-clause-told g c = λ before told.
    let done = c.view.ensures.told before told in
    (done.0, done.1, rw c.in-Ok.ensures.value done.2)

pub returns-in-Err-clause-told : goal.returns-in-Err-clause-told
returns-in-Err-clause-told g c = λ before told.
    (before, told, (subst (λ r. IsRefused (commanded before r) (Usage c.in-Err.word)) (sym c.in-Err.ensures.value) refl, refl))
