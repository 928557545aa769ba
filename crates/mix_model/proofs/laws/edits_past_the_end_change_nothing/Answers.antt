use Rattle.mix_model.proofs.SceneLaws.{mix_same, edit_past}
use Rattle.mix_model.proofs.laws.edits_past_the_end_change_nothing.Goals as goal

pub returns-clause-same : goal.returns-clause-same
returns-clause-same c = mix_same

pub returns-clause-one : goal.returns-clause-one
returns-clause-one c = λ s row files past. mix_same s _ files (edit_past s row past)
