use Rattle.fx_nodes.proofs.Chained.{length-chain_value}
use Rattle.fx_nodes.proofs.laws.a_chain_keeps_the_number_of_frames.Goals as goal

pub returns : goal.returns
returns c = length-chain_value
