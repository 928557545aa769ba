use Rattle.mix_model.proofs.CursorLaws.{plays_once, plays_around}
use Rattle.mix_model.proofs.laws.a_sound_plays_its_clip.Goals as goal

pub returns-clause-once : goal.returns-clause-once
returns-clause-once c = plays_once

pub returns-clause-looped : goal.returns-clause-looped
returns-clause-looped c = plays_around
