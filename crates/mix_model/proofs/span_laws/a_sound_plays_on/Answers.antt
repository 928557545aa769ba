use Rattle.mix_model.proofs.Spans.{played_again, played_around, played_end, played_more, played_run, played_silent}
use Rattle.mix_model.proofs.span_laws.a_sound_plays_on.Goals as goal

pub returns-clause-inside : goal.returns-clause-inside
returns-clause-inside c = played_run

pub returns-clause-end : goal.returns-clause-end
returns-clause-end c = played_end

pub returns-clause-more : goal.returns-clause-more
returns-clause-more c = played_more

pub returns-clause-ended : goal.returns-clause-ended
returns-clause-ended c = played_silent

pub returns-clause-again : goal.returns-clause-again
returns-clause-again c = played_again

pub returns-clause-around : goal.returns-clause-around
returns-clause-around c = played_around
