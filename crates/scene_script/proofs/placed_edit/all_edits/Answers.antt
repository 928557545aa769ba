use Rattle.std.proofs.Common.{◌∙◌}
use Rattle.scene_script.proofs.Edits.{number_fits}
use Rattle.scene_script.proofs.placed_edit.all_edits.Goals as goal

pub overflow_add-place : goal.overflow_add-place
overflow_add-place c =
    number_fits c.args.edits.now c.as_slice-edit-items.result.now c.loop-edit.edit-index _ c.requires.edits
    (c.as_slice-edit-items.ensures ∙ c.in_ok-ordered.ensures) c.loop-edit-test.true
