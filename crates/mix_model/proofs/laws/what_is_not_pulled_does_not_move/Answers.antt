use Rattle.mix_model.proofs.CursorLaws.{stays}
use Rattle.mix_model.proofs.SceneLaws.{untouched}
use Rattle.mix_model.proofs.laws.what_is_not_pulled_does_not_move.Goals as goal

pub returns-clause-stays : goal.returns-clause-stays
returns-clause-stays c = stays

pub returns-clause-first : goal.returns-clause-first
returns-clause-first c = untouched
