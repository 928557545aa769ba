use Rattle.std.proofs.Common.{◌∙◌, ap, refl, inl, inr}
use Rattle.std.specs.Option.{option_map}
use Rattle.snd_status.specs.declared.status.Status.TheVariants.{OutOfMemory}
use Rattle.snd_status.specs.Statuses.{put_status}
use Rattle.snd_tools.proofs.Outcomes.{works-passed, stopped-put}
use Rattle.snd_tools.proofs.Sets.{stopped-in-part}
use Rattle.snd_tools.specs.Meets.{put_all}
use Rattle.snd_tools.specs.Outcome.{Report, comes_to, gen_line, gen_outputs, gen_outcome}
use Rattle.snd_tools.proofs.generating.generate.Goals as goal

pub returns-in_err-line-clause-told : goal.returns-in_err-line-clause-told
returns-in_err-line-clause-told g c = λ before told.
    (before, told, works-passed (comes_to (gen_outcome c.args.number c.args.prefix.now)) before before _ c.from_residual.result OutOfMemory c.from_residual.ensures.1 (inl refl))

pub returns-in_err-write_files-clause-told : goal.returns-in_err-write_files-clause-told
returns-in_err-write_files-clause-told g c = λ before told.
    let fault = c.in_err-write_files.field-0.0 in
    let report : Report = record { outputs = gen_outputs c.args.number c.args.prefix.now; line = gen_line } in
    let left = stopped-in-part fault _ _ _ c.in_err-write_files.ensures.after before told in (
      left.0,
      left.1,
      works-passed (comes_to (gen_outcome c.args.number c.args.prefix.now)) before left.0 _ c.from_residual-in_err-write_files.result (put_status fault)
          c.from_residual-in_err-write_files.ensures.1 (stopped-put _ before left.0 _ fault c.in_err-write_files.ensures.cause.cause (inr (report, refl, left.2))),
    )

pub returns-clause-told : goal.returns-clause-told
returns-clause-told g c = λ before told.
    let outputs = gen_outputs c.args.number c.args.prefix.now in (
      put_all outputs before,
      c.in_ok-write_files.ensures.after ∙ ap (option_map (put_all outputs)) told,
      (record { outputs = outputs; line = gen_line }, record { reported = refl; set = refl }, c.in_ok-line.ensures),
    )
