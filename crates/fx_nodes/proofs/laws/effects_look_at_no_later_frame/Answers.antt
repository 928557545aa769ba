use Rattle.fx_nodes.proofs.Chained.{first_frames}
use Rattle.fx_nodes.proofs.laws.effects_look_at_no_later_frame.Goals as goal

pub returns : goal.returns
returns c = first_frames
