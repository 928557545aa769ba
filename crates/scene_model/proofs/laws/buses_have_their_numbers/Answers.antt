use Rattle.scene_model.proofs.BusNumbers.{number_later, number_at}
use Rattle.scene_model.proofs.laws.buses_have_their_numbers.Goals as goal

pub returns-clause-after_edits : goal.returns-clause-after_edits
returns-clause-after_edits c = number_later c.args.scene.now c.args.edits.now

pub returns-clause-at_frame : goal.returns-clause-at_frame
returns-clause-at_frame c = number_at c.args.scene.now
