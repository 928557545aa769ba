use Rattle.fx_nodes.proofs.DelayLemmas.{delayed_channel}
use Rattle.fx_nodes.proofs.laws.both_channels_go_through_one_ring.Goals as goal

pub returns : goal.returns
returns c = delayed_channel
