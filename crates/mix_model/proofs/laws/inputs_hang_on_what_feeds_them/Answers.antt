use Rattle.mix_model.proofs.Heard.{heard, pulled-closed, same_on}
use Rattle.mix_model.proofs.laws.inputs_hang_on_what_feeds_them.Goals as goal

pub returns-clause-agree : goal.returns-clause-agree
returns-clause-agree c = same_on

pub returns-clause-closed : goal.returns-clause-closed
returns-clause-closed c = pulled-closed

pub returns-clause-pulled : goal.returns-clause-pulled
returns-clause-pulled c = heard
