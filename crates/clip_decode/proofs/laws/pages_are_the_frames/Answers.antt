use Rattle.clip_decode.proofs.PageJoins.{pages_joined}
use Rattle.clip_decode.proofs.laws.pages_are_the_frames.Goals as goal

pub returns : goal.returns
returns c = pages_joined
