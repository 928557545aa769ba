use Rattle.mix_model.proofs.SceneLaws.{input_none, mix_none}
use Rattle.mix_model.proofs.laws.what_is_not_attached_is_silent.Goals as goal

pub returns-clause-input : goal.returns-clause-input
returns-clause-input c = input_none

pub returns-clause-mix : goal.returns-clause-mix
returns-clause-mix c = mix_none
