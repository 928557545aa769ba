use Rattle.mix_model.proofs.Inputs.{input-reordered}
use Rattle.mix_model.proofs.Pulls.{pulled-reordered}
use Rattle.mix_model.proofs.laws.the_order_of_buses_makes_no_difference.Goals as goal

pub returns-clause-inputs : goal.returns-clause-inputs
returns-clause-inputs c = input-reordered

pub returns-clause-pulls : goal.returns-clause-pulls
returns-clause-pulls c = pulled-reordered
