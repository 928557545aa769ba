use Rattle.engine.proofs.BlockLengths.{one_length}
use Rattle.engine.proofs.laws.a_block_has_one_length.Goals as goal

pub returns : goal.returns
returns c = one_length
