use Rattle.mix_model.proofs.Pulls.{pulled-solves, pulled-only}
use Rattle.mix_model.proofs.laws.pulls_have_one_solution.Goals as goal

pub returns-clause-solved : goal.returns-clause-solved
returns-clause-solved c = pulled-solves

pub returns-clause-only : goal.returns-clause-only
returns-clause-only c = λ p t values none. pulled-only p t none values
