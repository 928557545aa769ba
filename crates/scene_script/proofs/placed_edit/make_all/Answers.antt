use Rattle.scene_script.proofs.Edits.{may_make}
use Rattle.scene_script.proofs.placed_edit.make_all.Goals as goal

pub make-requires : goal.make-requires
make-requires c =
    may_make c.args.nodes.now c.loop-edit.plan c.args.edits.now c.loop-edit.edit-index _ c.requires.are c.requires.few c.loop-edit-test.true c.loop-edit.invariant.made
