use Rattle.std.proofs.Common.{refl, sym, subst}
use Rattle.snd_status.specs.declared.status.Status.TheVariants.{Usage}
use Rattle.snd_tools.specs.Outcome.{commanded, IsRefused}
use Rattle.snd_tools.proofs.tool.carry_out.Goals as goal

pub returns-in-Ok-Mix-clause-told : goal.returns-in-Ok-Mix-clause-told
returns-in-Ok-Mix-clause-told g c = λ before told.
    let done = c.mix.ensures.told before told in
    (done.0, done.1, rw (c.in-Ok-Mix.ensures.value, c.in-Ok-Mix.field-0-is) done.2)

pub returns-in-Ok-Info-clause-told : goal.returns-in-Ok-Info-clause-told
returns-in-Ok-Info-clause-told g c = λ before told.
    let done = c.info.ensures.told before told in
    (done.0, done.1, rw (c.in-Ok-Info.ensures.value, c.in-Ok-Info.field-0-is) done.2)

pub returns-in-Err-clause-told : goal.returns-in-Err-clause-told
returns-in-Err-clause-told g c = λ before told.
    (before, told, (subst (λ r. IsRefused (commanded before r) (Usage c.in-Err.word)) (sym c.in-Err.ensures.value) refl, refl))

pub returns-in-Ok-Gen-clause-told : goal.returns-in-Ok-Gen-clause-told
returns-in-Ok-Gen-clause-told g c = λ before told.
    let done = c.generate.ensures.told before told in
    (done.0, done.1, rw (c.in-Ok-Gen.ensures.value, c.in-Ok-Gen.field-0-is) done.2)

pub returns-in-Ok-Fx-clause-told : goal.returns-in-Ok-Fx-clause-told
returns-in-Ok-Fx-clause-told g c = λ before told.
    let done = c.fx.ensures.told before told in
    (done.0, done.1, rw (c.in-Ok-Fx.ensures.value, c.in-Ok-Fx.field-0-is, ← c.as_slice.ensures.value) done.2)
