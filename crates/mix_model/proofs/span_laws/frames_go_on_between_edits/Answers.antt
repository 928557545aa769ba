use Rattle.mix_model.proofs.Spans.{cursor_end, goes_on, plan_end}
use Rattle.mix_model.proofs.span_laws.frames_go_on_between_edits.Goals as goal

pub returns-clause-states : goal.returns-clause-states
returns-clause-states c = goes_on

pub returns-clause-next_plan : goal.returns-clause-next_plan
returns-clause-next_plan c = plan_end

pub returns-clause-next_cursors : goal.returns-clause-next_cursors
returns-clause-next_cursors c = cursor_end
