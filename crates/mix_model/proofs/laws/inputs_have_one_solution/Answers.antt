use Rattle.mix_model.proofs.Inputs.{input-solves, input-only}
use Rattle.mix_model.proofs.laws.inputs_have_one_solution.Goals as goal

pub returns-clause-solved : goal.returns-clause-solved
returns-clause-solved c = input-solves

pub returns-clause-only : goal.returns-clause-only
returns-clause-only c = λ m channel values none. input-only m channel none values
