use Rattle.std.proofs.Common.{string_bytes, ◌∙◌, sym}
use Rattle.gen_scene.proofs.DrawLemmas.{state-start}
use Rattle.gen_scene.specs.Script.{edit_row}
use Rattle.gen_scene.proofs.Pieces.{text_more, text_start, three_steps}
use Rattle.gen_scene.proofs.script_text.push_edits.Goals as goal

pub loop-number-init : goal.loop-number-init
loop-number-init c = (text_start (edit_row c.args.draws.now) (string_bytes c.args.text.now), sym (state-start c.args.draws.now))

pub loop-number-preserved : goal.loop-number-preserved
loop-number-preserved c = (
  text_more (edit_row c.args.draws.now) (string_bytes c.args.text.now) _ _ c.loop-number.number c.loop-number.invariant.0
      (rw (c.edit-row.ensures.value, c.loop-number.invariant.1) at c.in_ok-write.ensures.bytes),
  c.edit-row.ensures.draws ∙ three_steps c.args.draws.now c.loop-number.number c.loop-number.draws c.loop-number.invariant.1,
)
