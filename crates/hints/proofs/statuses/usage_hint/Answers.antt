use Rattle.std.proofs.Common.{append_assoc}
use Rattle.hints.specs.StatusHints.{usage_text}
use Rattle.hints.proofs.statuses.usage_hint.Goals as goal

pub returns : goal.returns
unfolding usage_text
returns c = let w = rw (c.name-name.ensures, c.forms-forms.ensures) at c.in_ok-format.ensures.ok in simp append_assoc w
