use Rattle.std.proofs.Common.{◌∙◌, string_bytes, Ok}
use Rattle.plain_data.proofs.Lists.{IfSome-at}
use Rattle.snd_tools.specs.Outcome.{comes_to, info_outcome, only_line, survey_line}
use Rattle.snd_tools.proofs.Lines.{works-line}
use Rattle.snd_tools.proofs.Outcomes.{ends-then, gives-then, stops, works-passed}
use Rattle.snd_tools.proofs.info.info.Goals as goal

pub returns-clause-told : goal.returns-clause-told
returns-clause-told g c = λ before told.
    let read = IfSome-at _ (g.D.Depot.files c.args.depot.now) before told c.in_ok-bytes.ensures.told in (
      before,
      c.in_ok-bytes.ensures.files ∙ told,
      works-line c.wave_line.result _ before _
          (gives-then (λ v. v.items) string_bytes c.in_ok-bytes.bytes c.wave_line.result _ survey_line read (rw c.deref.ensures.value at c.wave_line.ensures.value))
          (λ failed. absurd (let fault = c.wave_line.ensures.no_fault in cc)),
    )

pub returns-in_err-bytes-clause-told : goal.returns-in_err-bytes-clause-told
returns-in_err-bytes-clause-told g c = λ before told.
    let status = c.in_err-bytes.field-0.0 in (
      before,
      c.in_err-bytes.ensures.files ∙ told,
      works-passed (comes_to (info_outcome before c.args.file.now)) before before _ c.from_residual.result status c.from_residual.ensures.1
          (stops status _ (λ text. Ok (only_line text)) before _
          (ends-then status _ survey_line (IfSome-at _ (g.D.Depot.files c.args.depot.now) before told c.in_err-bytes.ensures.told))
          c.in_err-bytes.ensures.cause.cause),
    )
