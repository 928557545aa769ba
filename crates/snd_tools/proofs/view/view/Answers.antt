use Rattle.std.proofs.Common.{◌∙◌, string_bytes, Ok}
use Rattle.plain_data.proofs.Lists.{IfSome-at}
use Rattle.snd_tools.specs.Outcome.{comes_to, view_outcome, only_line, picture_at}
use Rattle.snd_tools.proofs.Lines.{works-line}
use Rattle.snd_tools.proofs.Outcomes.{ends-then, gives-then, stops, works-passed}
use Rattle.snd_tools.proofs.view.view.Goals as goal

pub returns-clause-told : goal.returns-clause-told
returns-clause-told g c = λ before told.
    let read = IfSome-at _ (g.D.Depot.files c.args.depot.now) before told c.in_ok-scene.ensures.told in (
      before,
      c.in_ok-scene.ensures.files ∙ told,
      works-line c.picture.result _ before _
          (gives-then (λ v. v) string_bytes c.in_ok-scene.scene c.picture.result _ (picture_at c.args.frame) read c.picture.ensures.value)
          (λ failed. absurd (let fault = c.picture.ensures.no_fault in cc)),
    )

pub returns-in_err-scene-clause-told : goal.returns-in_err-scene-clause-told
returns-in_err-scene-clause-told g c = λ before told.
    let status = c.in_err-scene.field-0.0 in (
      before,
      c.in_err-scene.ensures.files ∙ told,
      works-passed (comes_to (view_outcome before c.args.scene.now c.args.frame)) before before _ c.from_residual.result status c.from_residual.ensures.1
          (stops status _ (λ text. Ok (only_line text)) before _
          (ends-then status _ (picture_at c.args.frame) (IfSome-at _ (g.D.Depot.files c.args.depot.now) before told c.in_err-scene.ensures.told))
          c.in_err-scene.ensures.cause.cause),
    )
