use Rattle.fx_nodes.proofs.Cuts.{cut_anywhere}
use Rattle.fx_nodes.proofs.laws.frames_may_be_cut_anywhere.Goals as goal

pub returns : goal.returns
returns c = cut_anywhere
