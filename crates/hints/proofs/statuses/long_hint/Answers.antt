use Rattle.std.proofs.Common.{append_assoc}
use Rattle.hints.specs.StatusHints.{long_text}
use Rattle.hints.proofs.statuses.long_hint.Goals as goal

pub returns : goal.returns
unfolding long_text
returns c = simp append_assoc c.in_ok-format.ensures.ok
