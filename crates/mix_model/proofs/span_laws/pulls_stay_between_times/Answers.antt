use Rattle.mix_model.proofs.Spans.{cursor_steady, pulled_on, steady_all}
use Rattle.mix_model.proofs.span_laws.pulls_stay_between_times.Goals as goal

pub returns-clause-active : goal.returns-clause-active
returns-clause-active c = steady_all

pub returns-clause-pulled : goal.returns-clause-pulled
returns-clause-pulled c = λ p t count n steady. pulled_on p t count n steady

pub returns-clause-cursors : goal.returns-clause-cursors
returns-clause-cursors c = cursor_steady
