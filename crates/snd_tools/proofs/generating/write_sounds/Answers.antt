use Rattle.std.proofs.Common.{refl, sym, ◌∙◌, arith}
use Rattle.snd_io.specs.declared.answers.Put.TheVariants.{Done}
use Rattle.snd_io.specs.Answers.{put_fault_of}
use Rattle.gen_scene.proofs.DrawLemmas.{state-start}
use Rattle.snd_tools.proofs.Sets.{draws-more, nothing-set, passed-in-part, sounds-more, sounds-stopped, sounds-whole, stopped-in-part}
use Rattle.snd_tools.proofs.generating.write_sounds.Goals as goal

pub loop-i-init : goal.loop-i-init
loop-i-init g c = (c.requires, refl, sym (state-start c.args.draws.now), nothing-set c.args.draws.now c.args.prefix.now (g.D.Depot.files c.args.depot.now))

pub returns-in_err-write_sound-clause-after : goal.returns-in_err-write_sound-clause-after
returns-in_err-write_sound-clause-after g c =
    let fault = c.in_err-write_sound.field-0.0 in
    passed-in-part c.from_residual.result fault _ _ _ c.from_residual.ensures.1
    (sounds-stopped c.args.draws.now c.args.prefix.now c.loop-i.i _ _ c.loop-i-test.true
    (stopped-in-part fault _ _ _
    (sounds-more c.args.draws.now c.args.prefix.now c.loop-i.i (put_fault_of fault) c.loop-i.draws _ _ _ c.loop-i.invariant.2 c.loop-i.invariant.3 c.in_err-write_sound.ensures.after)))

pub loop-i-preserved : goal.loop-i-preserved
loop-i-preserved g c =
    let done = c.in_ok-write_sound.ensures in (
      done.closed,
      done.cause.stays refl ∙ c.loop-i.invariant.1,
      draws-more c.args.draws.now c.args.prefix.now c.loop-i.i c.loop-i.draws _ c.loop-i.invariant.2 done.draws,
      sounds-more c.args.draws.now c.args.prefix.now c.loop-i.i Done c.loop-i.draws _ _ _ c.loop-i.invariant.2 c.loop-i.invariant.3 done.after,
    )

pub returns-clause-after : goal.returns-clause-after
returns-clause-after g c =
    sounds-whole c.args.draws.now c.args.prefix.now c.loop-i.i _ _ (omega arith) c.loop-i.invariant.3
